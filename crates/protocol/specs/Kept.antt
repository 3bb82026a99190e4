-- What is kept of a text.
use Rattle.std.specs.Prelude.{ℕ, ◌-◌, cond, List, ◌++◌, ltb, length, take, drop}

-- how many bytes stand from a place up to the n-th, of l
abbrev pub kept_count : ℕ → ℕ → ℕ → ℕ
kept_count l at n = cond (ltb l n) l n - at

-- these bytes at the front, and behind them what stood there
abbrev pub kept_text : List ℕ → ℕ → ℕ → List ℕ
kept_text s at n = take (kept_count (length s) at n) (drop at s) ++ drop (kept_count (length s) at n) s
