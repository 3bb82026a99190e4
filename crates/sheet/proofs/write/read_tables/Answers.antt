-- `write::read_tables` meets its contract: a table of kinds that `asked` accepts passes, and where nothing is read nothing is written.
-- Assumes nothing.
use Rattle.std.proofs.Common.{sym, ◌∙◌, ◌≡◌, [], ◌<◌, length}
use Rattle.tokenizer.proofs.Answering.{ok-answered, err-answered, short_enough}
use Rattle.tokenizer.proofs.KindTables.{passes}
use Rattle.sheet.proofs.Asked.{read_unkind, read_long, raw_stays, results_stay, alignments_stay}
use Rattle.sheet.proofs.write.read_tables.Goals as goal

pub invariant_of-text : goal.invariant_of-text
invariant_of-text c = record {
  passes = passes _ (ok-answered _ _ _ (sym c.in_ok-asked.was ∙ c.asked.ensures)).1;
  fits = short_enough _ (ok-answered _ _ _ (sym c.in_ok-length_asked.was ∙ c.length_asked.ensures)).1;
}

pub returns-in_err-asked-clause-raw : goal.returns-in_err-asked-clause-raw
returns-in_err-asked-clause-raw c = raw_stays _ _ _ (read_unkind _ _ _ (err-answered _ _ _ (sym c.in_err-asked.was ∙ c.asked.ensures)).1) _

pub returns-in_err-asked-clause-results : goal.returns-in_err-asked-clause-results
returns-in_err-asked-clause-results c = results_stay _ _ _ (read_unkind _ _ _ (err-answered _ _ _ (sym c.in_err-asked.was ∙ c.asked.ensures)).1) _

pub returns-in_err-asked-clause-alignments : goal.returns-in_err-asked-clause-alignments
returns-in_err-asked-clause-alignments c = alignments_stay _ _ _ (read_unkind _ _ _ (err-answered _ _ _ (sym c.in_err-asked.was ∙ c.asked.ensures)).1) _

pub returns-in_err-length_asked-clause-raw : goal.returns-in_err-length_asked-clause-raw
returns-in_err-length_asked-clause-raw c = raw_stays _ _ _ (read_long _ _ _ (err-answered _ _ _ (sym c.in_err-length_asked.was ∙ c.length_asked.ensures)).1) _

pub returns-in_err-length_asked-clause-results : goal.returns-in_err-length_asked-clause-results
returns-in_err-length_asked-clause-results c = results_stay _ _ _ (read_long _ _ _ (err-answered _ _ _ (sym c.in_err-length_asked.was ∙ c.length_asked.ensures)).1) _

pub returns-in_err-length_asked-clause-alignments : goal.returns-in_err-length_asked-clause-alignments
returns-in_err-length_asked-clause-alignments c = alignments_stay _ _ _ (read_long _ _ _ (err-answered _ _ _ (sym c.in_err-length_asked.was ∙ c.length_asked.ensures)).1) _
