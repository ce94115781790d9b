-- What taking words from the front of a line does.
use Rattle.std.specs.Prelude.{◌≡◌, List, Some, None, Option}
use Rattle.commands.specs.declared.words.Words.{Words}
use Rattle.commands.specs.Lines.{Word, words}

-- The words that are left.
abbrev pub left : Words → List Word
left s = words s.rest.now

-- Something was looked for at the front of the words ws, and taken with the words after it left, or it is not there.
abbrev pub Takes : {A : Type 0} → (List Word → Option (A × List Word)) → List Word → Option A → List Word → Type 0
Takes front ws (Some a) after = front ws ≡ Some (a, after)
Takes front ws None after = front ws ≡ None
