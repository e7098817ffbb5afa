-- What a core knows of its senders.
use Rattle.std.specs.Prelude.{◌≡◌, ℕ, ◌<◌, not, Option, Some, None, List, length, map, sum_by, slice_index_or}
use Rattle.base_words.specs.Names.{is_number}
use Rattle.base_words.specs.Work.{number_if}
use Rattle.core_core.specs.declared.senders.Sender.{Sender}

-- by sender: how many submissions were delivered, and the final count of the gate, if it is shut
pub record SendersView : Type 0 where
  pub delivered : List ℕ
  pub gates : List (Option ℕ)

-- every gate is shut, and all behind it was delivered
abbrev pub AreThrough : List ℕ → List (Option ℕ) → Type 0
AreThrough delivered gates = (sender : ℕ) → sender < length delivered → slice_index_or gates sender None ≡ Some (slice_index_or delivered sender 0)

-- the senders, as callers see them
abbrev pub senders_view : List Sender → SendersView
senders_view senders = record { delivered = map (λ sender. sender.delivered) senders; gates = map (λ sender. sender.gate) senders }

-- one for a sender whose gate isn't shut, or of whom more is to come
abbrev pub is_awaited : Sender → ℕ
is_awaited sender = number_if (not (is_number sender.delivered sender.gate))

-- how many senders are awaited
abbrev pub awaited_count : List Sender → ℕ
awaited_count senders = sum_by is_awaited senders
