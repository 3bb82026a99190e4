-- Blank records.
use Rattle.std.specs.Prelude.{Bool, ◌&&◌, eqb}
use Rattle.tokenizer.specs.declared.event.Event.{Event}

-- whether every field of a record is 0
abbrev pub is_blank : Event → Bool
is_blank e = eqb e.kind 0 && (eqb e.name 0 && (eqb e.line 0 && (eqb e.column 0 && (eqb e.index 0 && (eqb e.vs 0 && eqb e.link 0)))))
