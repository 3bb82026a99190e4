-- Demand 3, for all kinds, and so for every table of kinds that passes.
-- Assumes nothing.
use Prim.Native.Nat.{ℕ}
use mathlib.Core.List.{List}
use Rattle.tokenizer.specs.Bytes.{kind_in, Passes}
use Rattle.sheet.specs.Demands.{Demand, DemandBy}
use Rattle.sheet.proofs.Beyond.{beyond, bom-passed}
use Rattle.sheet.proofs.Exchange.{exchange}
use Rattle.sheet.proofs.Counts.{counted}
use Rattle.sheet.proofs.Pieces.{covered}
use Rattle.sheet.proofs.LineStarts.{starts}
use Rattle.sheet.proofs.Told.{told-aligned}
use Rattle.sheet.proofs.Walked.{walked}
use Rattle.sheet.proofs.Remarks.{unquoted}

pub demand : (kind : ℕ → ℕ) → Demand kind
demand kind =
    record {
      beyond = beyond kind;
      exchange = exchange kind;
      in_each = λ on s f m. record { columns = counted kind on s f m; pieces = covered kind on s f m };
      starts = starts;
      told = told-aligned kind;
      walked = walked kind;
      unquoted = unquoted kind;
      bom_passed = bom-passed kind;
    }

pub demand_by : (t : List ℕ) → Passes t → DemandBy t
demand_by t p = record { demand = demand (kind_in t); no_remark = unquoted (kind_in t) p.reads.quote }
