-- Notes as bytes: what is read is what was written, and what was written is read again.
use Rattle.std.proofs.Common.{◌≡◌, ℕ, ◌^◌, ◌<◌, List, [], ◌∷◌, ◌++◌, Some, refl, ap, ◌∙◌, append_assoc, arith}
use Rattle.base_words.specs.declared.names.JobId.{JobId}
use Rattle.base_words.specs.declared.note.Note.{Note}
use Rattle.base_words.specs.declared.note.Note.TheVariants as note
use Rattle.base_words.specs.declared.note.OutcomeNote.{OutcomeNote}
use Rattle.base_words.specs.declared.note.OutcomeNote.TheVariants as outcome
use Rattle.base_words.specs.declared.order.Answer.{Answer}
use Rattle.base_words.specs.declared.order.Answer.TheVariants as answer
use Rattle.base_words.specs.declared.order.Mode.{Mode}
use Rattle.base_words.specs.declared.order.Mode.TheVariants as mode
use Rattle.base_words.specs.declared.order.Order.{Order}
use Rattle.base_words.specs.declared.order.Order.TheVariants as order
use Rattle.base_words.specs.declared.order.Reason.{Reason}
use Rattle.base_words.specs.declared.order.Reason.TheVariants as why
use Rattle.base_words.specs.Orders.{IsSpelledOrder}
use Rattle.base_words.specs.Spelled.{IsName, IsSpelledNote}
use Rattle.base_words.specs.Terms.{Terms}
use Rattle.text_journal.specs.Laws.{HoldsOut, HoldsOrder, HoldsTimes}
use Rattle.text_parts.specs.NoteBytes.{wide, short, runtime_bytes, name_bytes, mode_bytes, reason_bytes, answer_bytes, order_bytes, outcome_bytes, note_bytes}
use Rattle.text_parts.specs.ByteNotes.{both, pair, byte_at, wide_at, weight_at, runtime_at, name_at, mode_at, modes, reason_at, reasons, answer_at, answers, order_at, orders, outcome_at, outcomes, note_at, notes}
use Rattle.text_parts.proofs.ByteFields.{IsTaken, AreTaken, plain_taken, one_taken, both_taken, pair_taken, tagged_taken, one_again, both_again, wide_again, wide_taken, byte_taken, weight_again, weight_taken, runtime_again, runtime_taken, name_again, name_taken, named_again}

mode_taken : IsTaken mode_bytes mode_at
unfolding mode_at
mode_taken = tagged_taken mode_bytes modes (plain_taken (0 ∷ []) mode.Finish mode_bytes refl, (plain_taken (1 ∷ []) mode.Return mode_bytes refl, tt))

mode_again : (how : Mode) (rest : List ℕ) → mode_at (mode_bytes how ++ rest) ≡ Some (how, rest)
unfolding mode_at
mode_again mode.Finish rest = refl
mode_again mode.Return rest = refl

reason_taken : IsTaken reason_bytes reason_at
unfolding reason_at
reason_taken = tagged_taken reason_bytes reasons (
  plain_taken (0 ∷ []) why.NoQueue reason_bytes refl,
  (
    plain_taken (1 ∷ []) why.QueueClosed reason_bytes refl,
    (plain_taken (2 ∷ []) why.CoreClosing reason_bytes refl, (plain_taken (3 ∷ []) why.QueueReturned reason_bytes refl, (plain_taken (4 ∷ []) why.CoreReturned reason_bytes refl, tt))),
  ),
)

reason_again : (reason : Reason) (rest : List ℕ) → reason_at (reason_bytes reason ++ rest) ≡ Some (reason, rest)
unfolding reason_at
reason_again why.NoQueue rest = refl
reason_again why.QueueClosed rest = refl
reason_again why.CoreClosing rest = refl
reason_again why.QueueReturned rest = refl
reason_again why.CoreReturned rest = refl

answer_taken : IsTaken answer_bytes answer_at
unfolding answer_at
answer_taken = tagged_taken answer_bytes answers (
  one_taken (0 ∷ []) answer.Created byte_at (λ (byte : ℕ). byte ∷ []) answer_bytes byte_taken (λ queue. refl),
  (
    plain_taken (1 ∷ []) answer.TooMany answer_bytes refl,
    (
      plain_taken (2 ∷ []) answer.NoMemory answer_bytes refl,
      (
        plain_taken (3 ∷ []) answer.CoreClosing answer_bytes refl,
        (
          plain_taken (4 ∷ []) answer.SharesSet answer_bytes refl,
          (
            plain_taken (5 ∷ []) answer.NoQueue answer_bytes refl,
            (
              plain_taken (6 ∷ []) answer.Closed answer_bytes refl,
              (plain_taken (7 ∷ []) answer.AlreadyClosed answer_bytes refl, (plain_taken (8 ∷ []) answer.Woken answer_bytes refl, (plain_taken (9 ∷ []) answer.NoJob answer_bytes refl, tt))),
            ),
          ),
        ),
      ),
    ),
  ),
)

answer_again : (told : Answer) (rest : List ℕ) → answer_at (answer_bytes told ++ rest) ≡ Some (told, rest)
unfolding answer_at
answer_again (answer.Created queue) rest = refl
answer_again answer.TooMany rest = refl
answer_again answer.NoMemory rest = refl
answer_again answer.CoreClosing rest = refl
answer_again answer.SharesSet rest = refl
answer_again answer.NoQueue rest = refl
answer_again answer.Closed rest = refl
answer_again answer.AlreadyClosed rest = refl
answer_again answer.Woken rest = refl
answer_again answer.NoJob rest = refl

order_taken : IsTaken order_bytes order_at
unfolding order_at
order_taken = tagged_taken order_bytes orders (
  one_taken (0 ∷ []) (λ queue. order.Job queue tt) byte_at (λ (byte : ℕ). byte ∷ []) order_bytes byte_taken (λ queue. refl),
  (
    one_taken (1 ∷ []) order.Create weight_at short order_bytes weight_taken (λ weight. refl),
    (
      both_taken (2 ∷ []) order.SetShares byte_at weight_at (λ (byte : ℕ). byte ∷ []) short order_bytes byte_taken weight_taken (λ queue weight. refl),
      (
        both_taken (3 ∷ []) order.Close byte_at mode_at (λ (byte : ℕ). byte ∷ []) mode_bytes order_bytes byte_taken mode_taken (λ queue how. refl),
        (
          one_taken (4 ∷ []) order.CloseCore mode_at mode_bytes order_bytes mode_taken (λ how. refl),
          (both_taken (5 ∷ []) order.Wake byte_at wide_at (λ (byte : ℕ). byte ∷ []) wide order_bytes byte_taken wide_taken (λ actor number. refl), tt),
        ),
      ),
    ),
  ),
)

order_again : (sent : Order (Unit {0})) (rest : List ℕ) → IsSpelledOrder sent → HoldsOrder sent → order_at (order_bytes sent ++ rest) ≡ Some (sent, rest)
unfolding order_at
order_again (order.Job queue job) rest s h = refl
order_again (order.Create weight) rest s h = one_again order.Create weight_at (short weight ++ rest) weight rest (weight_again weight rest s)
order_again (order.SetShares queue weight) rest s h =
    both_again order.SetShares byte_at weight_at (queue ∷ (short weight ++ rest)) queue (short weight ++ rest) weight rest refl (weight_again weight rest s.1)
order_again (order.Close queue how) rest s h = both_again order.Close byte_at mode_at (queue ∷ (mode_bytes how ++ rest)) queue (mode_bytes how ++ rest) how rest refl (mode_again how rest)
order_again (order.CloseCore how) rest s h = one_again order.CloseCore mode_at (mode_bytes how ++ rest) how rest (mode_again how rest)
order_again (order.Wake actor number) rest s h =
    both_again order.Wake byte_at wide_at (actor ∷ (wide number ++ rest)) actor (wide number ++ rest) number rest refl (wide_again number rest h.1)

outcome_taken : IsTaken outcome_bytes outcome_at
unfolding outcome_at
outcome_taken = tagged_taken outcome_bytes outcomes (
  one_taken (0 ∷ []) outcome.Finished wide_at wide outcome_bytes wide_taken (λ value. refl),
  (
    one_taken (1 ∷ []) outcome.Returned reason_at reason_bytes outcome_bytes reason_taken (λ reason. refl),
    (one_taken (2 ∷ []) outcome.Answered answer_at answer_bytes outcome_bytes answer_taken (λ told. refl), tt),
  ),
)

outcome_again : (told : OutcomeNote ℕ) (rest : List ℕ) → HoldsOut told → outcome_at (outcome_bytes told ++ rest) ≡ Some (told, rest)
unfolding outcome_at
outcome_again (outcome.Finished value) rest h = one_again outcome.Finished wide_at (wide value ++ rest) value rest (wide_again value rest h)
outcome_again (outcome.Returned reason) rest h = one_again outcome.Returned reason_at (reason_bytes reason ++ rest) reason rest (reason_again reason rest)
outcome_again (outcome.Answered told) rest h = one_again outcome.Answered answer_at (answer_bytes told ++ rest) told rest (answer_again told rest)

-- ---- notes

rows_taken : AreTaken note_bytes 0 notes
rows_taken = (
  both_taken (0 ∷ []) note.Sent name_at order_at name_bytes order_bytes note_bytes name_taken order_taken (λ a b. refl),
  (
    both_taken (1 ∷ []) note.Took name_at byte_at name_bytes (λ (byte : ℕ). byte ∷ []) note_bytes name_taken byte_taken (λ a b. refl),
    (
      both_taken (2 ∷ []) note.Back name_at reason_at name_bytes reason_bytes note_bytes name_taken reason_taken (λ a b. refl),
      (
        both_taken (3 ∷ []) note.Answered name_at answer_at name_bytes answer_bytes note_bytes name_taken answer_taken (λ a b. refl),
        (
          both_taken (4 ∷ []) note.Created byte_at weight_at (λ (byte : ℕ). byte ∷ []) short note_bytes byte_taken weight_taken (λ a b. refl),
          (
            both_taken (5 ∷ []) note.SharesSet byte_at weight_at (λ (byte : ℕ). byte ∷ []) short note_bytes byte_taken weight_taken (λ a b. refl),
            (
              both_taken (6 ∷ []) note.QueueClosed byte_at mode_at (λ (byte : ℕ). byte ∷ []) mode_bytes note_bytes byte_taken mode_taken (λ a b. refl),
              (
                one_taken (7 ∷ []) note.CoreClosed mode_at mode_bytes note_bytes mode_taken (λ a. refl),
                (
                  one_taken (8 ∷ []) note.Woken name_at name_bytes note_bytes name_taken (λ a. refl),
                  (
                    both_taken (9 ∷ []) note.Pick byte_at runtime_at (λ (byte : ℕ). byte ∷ []) runtime_bytes note_bytes byte_taken runtime_taken (λ a b. refl),
                    (
                      one_taken (10 ∷ []) note.Start name_at name_bytes note_bytes name_taken (λ a. refl),
                      (
                        one_taken (11 ∷ []) note.Resume name_at name_bytes note_bytes name_taken (λ a. refl),
                        (
                          both_taken (12 ∷ []) note.Yield name_at wide_at name_bytes wide note_bytes name_taken wide_taken (λ a b. refl),
                          (
                            both_taken (13 ∷ []) note.Park name_at wide_at name_bytes wide note_bytes name_taken wide_taken (λ a b. refl),
                            (
                              both_taken (14 ∷ []) note.Stayed name_at wide_at name_bytes wide note_bytes name_taken wide_taken (λ a b. refl),
                              (
                                both_taken (15 ∷ []) (λ name told. note.Done name told.0 told.1) name_at (both pair wide_at wide_at) name_bytes (λ (p : ℕ × ℕ). wide p.0 ++ wide p.1) note_bytes name_taken (pair_taken wide_at wide_at wide wide wide_taken wide_taken) (λ name told. refl),
                                (
                                  both_taken (16 ∷ []) note.Returned name_at reason_at name_bytes reason_bytes note_bytes name_taken reason_taken (λ a b. refl),
                                  (
                                    both_taken (17 ∷ []) note.Turned byte_at wide_at (λ (byte : ℕ). byte ∷ []) wide note_bytes byte_taken wide_taken (λ a b. refl),
                                    (
                                      both_taken (18 ∷ []) note.Shut byte_at wide_at (λ (byte : ℕ). byte ∷ []) wide note_bytes byte_taken wide_taken (λ a b. refl),
                                      (
                                        both_taken (19 ∷ []) note.Collected name_at outcome_at name_bytes outcome_bytes note_bytes name_taken outcome_taken (λ a b. refl),
                                        (
                                          both_taken (20 ∷ []) note.Redeemed name_at outcome_at name_bytes outcome_bytes note_bytes name_taken outcome_taken (λ a b. refl),
                                          (
                                            one_taken (21 ∷ []) note.Detached name_at name_bytes note_bytes name_taken (λ a. refl),
                                            tt,
                                          ),
                                        ),
                                      ),
                                    ),
                                  ),
                                ),
                              ),
                            ),
                          ),
                        ),
                      ),
                    ),
                  ),
                ),
              ),
            ),
          ),
        ),
      ),
    ),
  ),
)

pub note_taken : IsTaken note_bytes note_at
unfolding note_at
note_taken = tagged_taken note_bytes notes rows_taken

-- a number of a name has eight bytes
holds : (cores : ℕ) (name : JobId) → IsName cores name → name.number < 2 ^ 64
holds cores name named = omega (arith, named.in_range)

-- a time and an answer
pub two_again : (time value : ℕ) (rest : List ℕ) → time < 2 ^ 64 → value < 2 ^ 64 → both pair wide_at wide_at ((wide time ++ wide value) ++ rest) ≡ Some ((time, value), rest)
two_again time value rest h k =
    both_again pair wide_at wide_at ((wide time ++ wide value) ++ rest) time (wide value ++ rest) value rest (ap wide_at (append_assoc (wide time) (wide value) rest) ∙ wide_again time (wide value ++ rest) h) (wide_again value rest k)

pub note_again : (terms : Terms) (written : Note ℕ) (rest : List ℕ) → IsSpelledNote terms written → HoldsTimes written → note_at (note_bytes written ++ rest) ≡ Some (written, rest)
unfolding note_at
note_again terms (note.Sent name sent) rest s h = named_again note.Sent order_at name (order_bytes sent) rest sent (holds terms.cores name s.0.0) (order_again sent rest s.1 h)
note_again terms (note.Took name queue) rest s h = named_again note.Took byte_at name (queue ∷ []) rest queue (holds terms.cores name s.0.0) refl
note_again terms (note.Back name reason) rest s h = named_again note.Back reason_at name (reason_bytes reason) rest reason (holds terms.cores name s.0.0) (reason_again reason rest)
note_again terms (note.Answered name told) rest s h = named_again note.Answered answer_at name (answer_bytes told) rest told (holds terms.cores name s.0.0) (answer_again told rest)
note_again terms (note.Created queue weight) rest s h = both_again note.Created byte_at weight_at (queue ∷ (short weight ++ rest)) queue (short weight ++ rest) weight rest refl (weight_again weight rest s.2)
note_again terms (note.SharesSet queue weight) rest s h = both_again note.SharesSet byte_at weight_at (queue ∷ (short weight ++ rest)) queue (short weight ++ rest) weight rest refl (weight_again weight rest s.2)
note_again terms (note.QueueClosed queue how) rest s h = both_again note.QueueClosed byte_at mode_at (queue ∷ (mode_bytes how ++ rest)) queue (mode_bytes how ++ rest) how rest refl (mode_again how rest)
note_again terms (note.CoreClosed how) rest s h = one_again note.CoreClosed mode_at (mode_bytes how ++ rest) how rest (mode_again how rest)
note_again terms (note.Woken name) rest s h = one_again note.Woken name_at (name_bytes name ++ rest) name rest (name_again name rest (holds terms.cores name s.0))
note_again terms (note.Pick queue runtime) rest s h = both_again note.Pick byte_at runtime_at (queue ∷ (runtime_bytes runtime ++ rest)) queue (runtime_bytes runtime ++ rest) runtime rest refl (runtime_again runtime rest s.2)
note_again terms (note.Start name) rest s h = one_again note.Start name_at (name_bytes name ++ rest) name rest (name_again name rest (holds terms.cores name s.0))
note_again terms (note.Resume name) rest s h = one_again note.Resume name_at (name_bytes name ++ rest) name rest (name_again name rest (holds terms.cores name s.0))
note_again terms (note.Yield name time) rest s h = named_again note.Yield wide_at name (wide time) rest time (holds terms.cores name s.0) (wide_again time rest h)
note_again terms (note.Park name time) rest s h = named_again note.Park wide_at name (wide time) rest time (holds terms.cores name s.0) (wide_again time rest h)
note_again terms (note.Stayed name time) rest s h = named_again note.Stayed wide_at name (wide time) rest time (holds terms.cores name s.0) (wide_again time rest h)
note_again terms (note.Done name time value) rest s h =
    named_again (λ name told. note.Done name told.0 told.1) (both pair wide_at wide_at) name (wide time ++ wide value) rest (time, value) (holds terms.cores name s.0) (two_again time value rest h.0 h.1)
note_again terms (note.Returned name reason) rest s h = named_again note.Returned reason_at name (reason_bytes reason) rest reason (holds terms.cores name s.0.0) (reason_again reason rest)
note_again terms (note.Turned queue time) rest s h = both_again note.Turned byte_at wide_at (queue ∷ (wide time ++ rest)) queue (wide time ++ rest) time rest refl (wide_again time rest (omega (arith, s.3)))
note_again terms (note.Shut sender count) rest s h = both_again note.Shut byte_at wide_at (sender ∷ (wide count ++ rest)) sender (wide count ++ rest) count rest refl (wide_again count rest (omega (arith, s.2)))
note_again terms (note.Collected name told) rest s h = named_again note.Collected outcome_at name (outcome_bytes told) rest told (holds terms.cores name s.0.0) (outcome_again told rest h)
note_again terms (note.Redeemed name told) rest s h = named_again note.Redeemed outcome_at name (outcome_bytes told) rest told (holds terms.cores name s.0.0) (outcome_again told rest h)
note_again terms (note.Detached name) rest s h = one_again note.Detached name_at (name_bytes name ++ rest) name rest (name_again name rest (holds terms.cores name s.0))
