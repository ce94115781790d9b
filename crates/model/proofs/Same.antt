-- Sheets with the same capacity and the same entries are the same.
use Rattle.std.proofs.Common.{◌≡◌, ℕ, ◌<◌, ◌∙◌, arith}
use Rattle.std.proofs.lemmas.List.{same_lists, get_or_default}
use Rattle.model.specs.declared.entries.Entry.{Entry}
use Rattle.model.specs.Sheets.{Sheet, count, entry, blank}

pub same_entry : (e f : Entry) → e.release ≡ f.release → e.deadline ≡ f.deadline → e.duration ≡ f.duration → e.demand ≡ f.demand → e ≡ f
same_entry e f r d p c = λ z. record { release = r z; deadline = d z; duration = p z; demand = c z }

pub same_sheets : (s u : Sheet) → s.capacity ≡ u.capacity → count s ≡ count u → ((k : ℕ) → k < count s → entry s k ≡ entry u k) → s ≡ u
same_sheets s u c n each =
    let es : s.entries ≡ u.entries =
    same_lists s.entries u.entries n
    (λ k d l.
    get_or_default s.entries k d blank l ∙ each k l
    ∙ get_or_default u.entries k blank d (omega arith)) in
    λ z. record { capacity = c z; entries = es z }
