-- A pass that goes on keeps what it has found and accounted for.
use Rattle.std.proofs.Common.{ℕ, List, refl, sym, ◌∙◌, subst, arith}
use Rattle.std.proofs.ByRecursion.{All-weaker}
use Rattle.model.specs.declared.intervals.Interval.{Interval}
use Rattle.model.specs.Sheets.{Sheet, count, entry}
use Rattle.shift.specs.Meaning.{from_start, to_end}
use Rattle.shift_rule.specs.declared.pass.Pass.{Pass}
use Rattle.shift_rule.specs.declared.pass.Survey.{Survey}
use Rattle.shift_rule.specs.Found.{Accounted, Grows, AllAccounted, AccountedFrom, AccountedTo}
use Rattle.shift_rule.specs.Passes.{sheet_in, Onward}

-- ---- what was found
pub grows_still : (n : ℕ) (v : Survey) → Grows n v v
grows_still n v = record { first = λ t1 t2 h. h; starts = λ k l. omega arith }

pub accounted_still : (s : Sheet) (v w : Survey) → Grows (count s) v w → (t1 t2 : ℕ) → Accounted s v t1 t2 → Accounted s w t1 t2
accounted_still s v w on t1 t2 a =
    record {
      negative = λ i over. on.first t1 t2 (a.negative i over);
      forced = λ i under k l before short. omega (arith, on.starts k l, a.forced i under k l before short);
    }

pub all_still : (s : Sheet) (v w : Survey) → Grows (count s) v w → (is : List Interval) → AllAccounted s v is → AllAccounted s w is
all_still s v w on is h = All-weaker _ _ (λ i a. accounted_still s v w on i.t1 i.t2 a) is h

pub from_still : (s : Sheet) (v w : Survey) → Grows (count s) v w → (t1 : ℕ) → AccountedFrom s v t1 → AccountedFrom s w t1
from_still s v w on t1 h j l = all_still s v w on (from_start t1 (entry s j)) (h j l)

pub to_still : (s : Sheet) (v w : Survey) → Grows (count s) v w → (t2 : ℕ) → AccountedTo s v t2 → AccountedTo s w t2
to_still s v w on t2 h j l = accounted_still s v w on (to_end t2 (entry s j)).t1 t2 (h j l)

-- ---- the pass
pub still : (p : Pass) → Onward p p
still p = record { same = refl; grows = grows_still (count (sheet_in p)) p.found }

pub then : (p q r : Pass) → Onward p q → Onward q r → Onward p r
then p q r a b =
    let more : Grows (count (sheet_in p)) q.found r.found = subst (λ (s : Sheet). Grows (count s) q.found r.found) a.same b.grows in
    record {
      same = b.same ∙ a.same;
      grows = record {
        first = λ t1 t2 h. more.first t1 t2 (a.grows.first t1 t2 h);
        starts = λ k l. omega (arith, a.grows.starts k l, more.starts k l);
      };
    }

-- the sheet stays, so that what holds of it goes either way
pub onto : (p q : Pass) (P : Sheet → Type 0) → Onward p q → P (sheet_in p) → P (sheet_in q)
onto p q P on h = subst P (sym on.same) h

pub back : (p q : Pass) (P : Sheet → Type 0) → Onward p q → P (sheet_in q) → P (sheet_in p)
back p q P on h = subst P on.same h

-- from q on, what was found grows for the sheet of p
pub grown : (p q r : Pass) → Onward p q → Onward q r → Grows (count (sheet_in p)) q.found r.found
grown p q r a b = back p q (λ s. Grows (count s) q.found r.found) a b.grows

-- what q has accounted for, r still has
pub kept : (p q r : Pass) → Onward p q → Onward q r → (t1 t2 : ℕ) → Accounted (sheet_in p) q.found t1 t2 → Accounted (sheet_in p) r.found t1 t2
kept p q r a b = accounted_still (sheet_in p) q.found r.found (grown p q r a b)
