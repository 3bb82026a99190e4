-- `head_delimiter_start` meets its contract: the first byte rules out most lines.
-- Assumes nothing.
use Rattle.tokenizer.specs.declared.kinds.Kind.TheVariants.{Space, Pipe, Hyphen, Colon}
use Rattle.tokenizer.specs.Moves.{rest_of}
use Rattle.gfm_table.proofs.KindsAhead.{apart_kinds}
use Rattle.gfm_table.proofs.ValuePlaces.{no_row, count_other}
use Rattle.gfm_table.proofs.delimiter.head_delimiter_start.Goals as goal

pub returns-in_default : goal.returns-in_default
returns-in_default c =
    let t = c.args.text.now in
    let k = c.ahead.result in
    let o = c.in_default in
    no_row t.passes.reads c.args.on c.args.p (rest_of t.bytes.now c.args.p)
    (count_other t.passes.reads t.bytes.now c.args.p.index _ c.ahead.ensures (apart_kinds k Space o.not-Space) (apart_kinds k Pipe o.not-Pipe) (apart_kinds k Hyphen o.not-Hyphen) (apart_kinds k Colon o.not-Colon))
