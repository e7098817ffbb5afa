-- Which notes of its core a judge does again, and what it asks of the others.
use Rattle.std.specs.Prelude.{◌≡◌, ℕ, ◌<◌, ◌==◌, Bool, true, false, not, ◌&&◌, if◌then◌else◌, [], ◌∷◌}
use Rattle.base_words.specs.declared.note.Note.{Note}
use Rattle.base_words.specs.declared.note.Note.TheVariants.{Sent, Answered, Created, Pick, Shut, Collected, Redeemed, Detached}
use Rattle.base_words.specs.Commands.{has_effect}
use Rattle.base_words.specs.Journal.{Journal, EachNote}
use Rattle.base_words.specs.Lawful.{MayStand}
use Rattle.base_words.specs.Terms.{Terms}
use Rattle.judge_sink.specs.Judged.{KeepsLinks, without_awaited}
use Rattle.judge_sink.specs.Tables.{FollowsSent}

-- whether a note tells of a submission to another core than this one: what became of it stands in two journals
abbrev pub is_elsewhere : ℕ → Note ℕ → Bool
is_elsewhere core (Sent name order) = not (name.to == core)
is_elsewhere core (Collected name outcome) = not (name.to == core)
is_elsewhere core (Redeemed name outcome) = not (name.to == core)
is_elsewhere core (Detached name) = not (name.to == core)
is_elsewhere core _ = false

-- whether a note begins a step that the next one ends: a pick, or an answer that has an effect
abbrev pub is_half : Note ℕ → Bool
is_half (Pick queue runtime) = true
is_half (Answered name answer) = has_effect answer
is_half _ = false

-- whether the last note begins a step
abbrev pub is_half_done : Journal ℕ → Bool
is_half_done [] = false
is_half_done (note ∷ before) = is_half note

-- whether a note tells that a gate was shut
abbrev pub is_shut : Note ℕ → Bool
is_shut (Shut sender count) = true
is_shut _ = false

-- whether a note is replayed: it tells of no gate, and of no submission to another core
abbrev pub is_replayed : ℕ → Note ℕ → Bool
is_replayed core note = not (is_shut note) && not (is_elsewhere core note)

-- the notes that are replayed, in their order
abbrev pub replayed : ℕ → Journal ℕ → Journal ℕ
replayed core [] = []
replayed core (note ∷ before) = if is_replayed core note then note ∷ replayed core before else replayed core before

-- a note that isn't replayed stands between two steps
abbrev pub IsLeft : ℕ → Note ℕ → Journal ℕ → Type 0
IsLeft core note before = is_replayed core note ≡ false → is_half_done before ≡ false

-- where a queue is created at the opening, all notes before are replayed
abbrev pub OpensFirst : ℕ → Note ℕ → Journal ℕ → Type 0
OpensFirst core (Created queue weight) before = is_half_done before ≡ false → replayed core before ≡ before
OpensFirst core _ before = Unit {0}

-- Each note that is replayed may stand where it stands among those, and the others change nothing for it. What notes ask of gates and of submissions holds among all.
pub record IsReplayed (terms : Terms) (has : Journal ℕ) : Type 0 where
  pub core_in : terms.actor < terms.cores
  pub lawful : EachNote (MayStand terms) (without_awaited (replayed terms.actor has))
  pub left : EachNote (IsLeft terms.actor) has
  pub links : EachNote (KeepsLinks terms.actor terms.cores) has
  pub sent : EachNote (FollowsSent terms) has
  pub opening : EachNote (OpensFirst terms.actor) has
