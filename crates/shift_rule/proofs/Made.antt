-- What a pair of entries makes, point by point.
use Rattle.std.proofs.Common.{ℕ, ◌+◌, ◌-◌, List, [], ◌∷◌, ◌++◌}
use Rattle.std.specs.List.{AllByRecursion}
use Rattle.std.proofs.ByRecursion.{All-append}
use Rattle.model.specs.declared.entries.Entry.{Entry}
use Rattle.model.specs.declared.intervals.Interval.{Interval}
use Rattle.shift.specs.Meaning.{from_start, to_end, made_by}

module _ (P : Interval → Type 0) (a b : Entry) where
  abbrev early : ℕ
  early = a.release + a.duration

  abbrev late : ℕ
  late = a.deadline - a.duration

  abbrev ends : List Interval
  ends = to_end a.deadline b ∷ (to_end early b ∷ (to_end late b ∷ []))

  pub from_points : AllByRecursion P (from_start a.release b) → AllByRecursion P (from_start late b) → AllByRecursion P (from_start early b) →
      P (to_end a.deadline b) → P (to_end early b) → P (to_end late b) → AllByRecursion P (made_by a b)
  from_points first second third fourth fifth sixth =
      All-append P (from_start a.release b) (from_start late b ++ (from_start early b ++ ends)) first
      (All-append P (from_start late b) (from_start early b ++ ends) second
      (All-append P (from_start early b) ends third (fourth, (fifth, (sixth, tt)))))
