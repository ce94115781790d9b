-- What holds of every board is kept by the calls on it.
use Rattle.std.proofs.Common.{ℕ, [], ◌∷◌, ◌++◌, map, set, refl, arith, length-set}
use Rattle.std.specs.List.{remove}
use Rattle.std.proofs.lemmas.List.{length-map}
use Rattle.std.proofs.lemmas.List.Edits.{length-remove}
use Rattle.model.specs.declared.rows.Pair.{Pair}
use Rattle.model.specs.declared.windows.Window.{Window}
use Rattle.model.specs.Changes.{reset, rebooked}
use Rattle.model.specs.Limits.{row_at}
use Rattle.board.specs.declared.bookings.Test.{Test}
use Rattle.board.specs.Calls.{Bookings, SoundBookings, Answer, row_of, Enters, adds, refuses, Withdraws, removes, Rebooks, moves, unfit}
use Rattle.board.specs.Calls as calls
use Rattle.board.proofs.Kept.{added_length, fine_test, sound_added, sound_withdrawn, sound_rebooked}

module _ (b : Bookings) (sound : SoundBookings b) where
  pub entered_sound : {t : Test} {a : Answer} {c : Bookings} → Enters b t a c → SoundBookings c
  entered_sound {t} (adds none) =
      let fine = fine_test b t none in
      record {
        some_capacity = sound.some_capacity;
        small_capacity = sound.small_capacity;
        few = omega (arith, added_length b.rows (row_of t), fine.room);
        sound = sound_added b t (b.rows ++ (row_of t ∷ [])) refl sound.sound fine;
      }
  entered_sound (refuses w first) = sound

  pub withdrawn_sound : {pair : Pair} {a : Answer} {c : Bookings} → Withdraws b pair a c → SoundBookings c
  withdrawn_sound (removes k at) =
      let left = remove b.rows k in
      record {
        some_capacity = sound.some_capacity;
        small_capacity = sound.small_capacity;
        few = omega (arith, length-map left reset, length-remove b.rows k at.inside, sound.few);
        sound = sound_withdrawn b.capacity k b.rows (map reset left) at.inside refl sound.sound;
      }
  withdrawn_sound (calls.Withdraws.unknown free) = sound

  pub rebooked_sound : {pair : Pair} {release deadline : ℕ} {a : Answer} {c : Bookings} → Rebooks b pair release deadline a c → SoundBookings c
  rebooked_sound {release = release} {deadline = deadline} (moves k at fit) =
      let w : Window = record { release = release; deadline = deadline } in
      let row = rebooked w (row_at b.rows k) in
      record {
        some_capacity = sound.some_capacity;
        small_capacity = sound.small_capacity;
        few = omega (arith, length-map (set b.rows k row) reset, length-set b.rows k row, sound.few);
        sound = sound_rebooked b.capacity k w b.rows (map reset (set b.rows k row)) at.inside fit refl sound.sound;
      }
  rebooked_sound (calls.Rebooks.unknown free) = sound
  rebooked_sound (unfit k at misfit) = sound
