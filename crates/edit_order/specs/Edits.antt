-- What edits make of a list of events, and question 11.
use Rattle.std.specs.Prelude.{ℕ, zero, suc, ◌+◌, ◌-◌, List, [], ◌∷◌, ◌++◌, Bool, true, cond, ◌||◌, ◌&&◌, not, eqb, leb, ltb, take, drop}
use Rattle.tokenizer.specs.declared.event.Event.{Event}
use Rattle.edit_order.specs.declared.edit_slots.Edit.{Edit}

-- ## The edits at a position merge

-- the edits at position p, in the order given
unfoldable pub here : ℕ → List Edit → List Edit
here p [] = []
here p (e ∷ es) = cond (eqb e.at p) (e ∷ here p es) (here p es)

-- removals add up
unfoldable pub removed : List Edit → ℕ
removed [] = 0
removed (e ∷ es) = e.removes + removed es

-- the events that an edit adds
abbrev pub addition : List Event → Edit → List Event
addition pool e = take e.adds (drop e.from pool)

-- additions in the order given, behind the events so far; an edit that says so adds before them
unfoldable pub added : List Event → List Event → List Edit → List Event
added pool so [] = so
added pool so (e ∷ es) = added pool (cond (eqb e.before 0) (so ++ addition pool e) (addition pool e ++ so)) es

-- how many events are removed at p
abbrev pub removed_at : List Edit → ℕ → ℕ
removed_at es p = removed (here p es)

-- the events added at p
abbrev pub added_at : List Event → List Edit → ℕ → List Event
added_at pool es p = added pool [] (here p es)

-- ## Question 11

-- an edit that removes and adds nothing is dropped, wherever it points
abbrev pub dropped : Edit → Bool
dropped e = eqb e.removes 0 && eqb e.adds 0

-- a test of every edit
unfoldable pub every : (Edit → Bool) → List Edit → Bool
every f [] = true
every f (e ∷ es) = f e && every f es

-- not strictly inside the n events from p on
abbrev pub clear : ℕ → ℕ → Edit → Bool
clear p n e = dropped e || not (ltb p e.at && ltb e.at (p + n))

-- what is removed at p stays in the list, and no edit lies strictly inside it
abbrev pub stretch : ℕ → List Edit → ℕ → Bool
stretch len es p = leb (p + removed_at es p) len && every (clear p (removed_at es p)) es

-- what an edit adds stays in the pool
abbrev pub in_pool : ℕ → Edit → Bool
in_pool pool e = eqb e.adds 0 || leb (e.from + e.adds) pool

-- one edit among all, over a list and a pool of these lengths
abbrev pub fine : ℕ → ℕ → List Edit → Edit → Bool
fine len pool es e = dropped e || (stretch len es e.at && in_pool pool e)

-- question 11
abbrev pub edits_fit : ℕ → ℕ → List Edit → Bool
edits_fit len pool es = every (fine len pool es) es

-- ## The result

-- the list from position p on, of which the first `gone` events are removed already
unfoldable pub edited : List Event → List Edit → ℕ → ℕ → List Event → List Event
edited pool es p gone [] = added_at pool es p
edited pool es p zero (x ∷ xs) =
    added_at pool es p ++ cond (eqb (removed_at es p) 0) (x ∷ edited pool es (p + 1) 0 xs) (edited pool es (p + 1) (removed_at es p - 1) xs)
edited pool es p (suc n) (x ∷ xs) = edited pool es (p + 1) n xs

-- the list, edited
abbrev pub edited_list : List Event → List Event → List Edit → List Event
edited_list list pool es = edited pool es 0 0 list
