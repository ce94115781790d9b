-- What a slot tells shows the slot.
use Rattle.std.proofs.Common.{◌≡◌, ◌<◌, Some, None, Option, refl}
use native.Mathlib.Bridge.{le_prop}
use native.Mathlib.Decide.{dec_lt}
use Rattle.std.specs.Option.{option_map}
use Rattle.model.specs.Sheets.{horizon}
use Rattle.rules.specs.declared.slots.Slot.{Slot}
use Rattle.time_table_rule.specs.Shown.{told, slot_at, shown}

slot_there : (f : Slot) (d : Dec (f.at < horizon)) → slot_at f.at d ≡ Some f
slot_there f (yes l) = λ z. Some (record { at = f.at; inside = le_prop l f.inside z })
slot_there f (no h) = absurd (h f.inside)

pub shown_told : (o : Option Slot) → shown (option_map told o) ≡ o
shown_told (Some f) = slot_there f (dec_lt f.at horizon)
shown_told None = refl
