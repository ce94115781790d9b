-- The entry at a place, where the sheet has one, and its absence where not.
use Rattle.std.proofs.Common.{◌≡◌, ℕ, ◌<◌, ◌≤◌, Bool, true, false, cond, ltb, Some, None, refl, arith}
use Rattle.std.proofs.lemmas.Bool.Decides.{nat_tests}
use Rattle.model.specs.declared.entries.Entry.{Entry}
use Rattle.model.specs.Sheets.{Sheet, count, entry, entry_at}

pub some_at : (s : Sheet) (k : ℕ) → k < count s → entry_at s k ≡ Some (entry s k)
some_at s k l = grind (arith, nat_tests)

pub none_at : (s : Sheet) (k : ℕ) → count s ≤ k → entry_at s k ≡ None
none_at s k l = grind (arith, nat_tests)

-- What was answered, by the test that it stands on.
found : (b : Bool) (e e' : Entry) → cond b (Some e') None ≡ Some e → (b ≡ true) × (e ≡ e')
found true e e' h = (refl, cc)
found false e e' h = let z : ◌≡◌ {A = ℕ} 0 1 = cc in absurd (omega arith)

missed : (b : Bool) (e : Entry) → cond b (Some e) None ≡ None → b ≡ false
missed true e h = let z : ◌≡◌ {A = ℕ} 0 1 = cc in absurd (omega arith)
missed false e h = refl

pub at_some : (s : Sheet) (k : ℕ) (e : Entry) → entry_at s k ≡ Some e → (k < count s) × (e ≡ entry s k)
at_some s k e h = let f = found (ltb k (count s)) e (entry s k) h in (grind (arith, nat_tests), f.1)

pub at_none : (s : Sheet) (k : ℕ) → entry_at s k ≡ None → count s ≤ k
at_none s k h = let f = missed (ltb k (count s)) (entry s k) h in grind (arith, nat_tests)
