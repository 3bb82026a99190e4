-- Question 11 of edits that rise, one edit after the other.
use Rattle.std.specs.Prelude.{ℕ, ◌+◌, cond, eqb, leb, Option, Some, None}
use Rattle.edit_order.specs.declared.edit_slots.Edit.{Edit}
use Rattle.edit_order.specs.declared.edit_fits.Extent.{Extent}
use Rattle.edit_order.specs.Edits.{dropped, in_pool}

-- as far as position p, and to where its removals stop
abbrev pub to : ℕ → ℕ → Extent
to p stop = record { at = p; stop = stop }

-- that far, if it is in the list
abbrev pub within : ℕ → ℕ → ℕ → Option Extent
within len p stop = cond (leb stop len) (Some (to p stop)) None

-- an edit at the last position p goes on where that position's removals stop; one behind p must not begin before
abbrev pub reached : ℕ → ℕ → Extent → Edit → Option Extent
reached len n r e =
    cond (dropped e)
    (Some r)
    (cond (in_pool n e)
    (cond (eqb e.at r.at) (within len r.at (r.stop + e.removes)) (cond (leb r.stop e.at) (within len e.at (e.at + e.removes)) None))
    None)
