-- The causes of faults by number and layer.
use Rattle.std.specs.Prelude.{ℕ}
use Rattle.board.specs.Refusals.{number_of}
use Rattle.records.specs.declared.faults.NumberFault.TheVariants.{Ends, TooLong}
use Rattle.records.specs.declared.faults.RecordFault.TheVariants.{Number, Kind, LongText, TextPastEnd}
use Rattle.campaign.specs.declared.faults.Layer.{Layer}
use Rattle.campaign.specs.declared.faults.Layer.TheVariants.{Numbers, Records, Campaign}
use Rattle.campaign.specs.declared.faults.Cause.{Cause}
use Rattle.campaign.specs.declared.faults.Cause.TheVariants.{Record, TooManyRecords, LeftOver, Board}

-- The number of a cause; what the board refuses has the number of the refusal.
abbrev pub cause_number : Cause → ℕ
cause_number (Record (Number Ends)) = 11
cause_number (Record (Number TooLong)) = 12
cause_number (Record Kind) = 13
cause_number (Record LongText) = 14
cause_number (Record TextPastEnd) = 15
cause_number TooManyRecords = 16
cause_number LeftOver = 17
cause_number (Board refusal) = number_of refusal

-- The number of a layer.
abbrev pub layer_number : Layer → ℕ
layer_number Numbers = 1
layer_number Records = 2
layer_number Campaign = 3

-- The layer of a cause: 1 is numbers, 2 is records, 3 is the campaign.
abbrev pub cause_layer : Cause → ℕ
cause_layer (Record (Number fault)) = 1
cause_layer (Record Kind) = 2
cause_layer (Record LongText) = 2
cause_layer (Record TextPastEnd) = 2
cause_layer TooManyRecords = 3
cause_layer LeftOver = 3
cause_layer (Board refusal) = 3
