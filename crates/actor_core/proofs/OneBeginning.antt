-- A poll begins at one place before the note that settles it: what stands between was posted by its calls, and what stands before was there before.
use Rattle.actor_core.proofs.Names.{◌≡◌, ℕ, ◌+◌, Bool, true, false, List, [], ◌∷◌, ◌++◌, Option, refl, sym, subst, JobId, Note, Journal, ArePosts, poll_note, polls_made, Step, Terms, Meaning, Call, IfDone, IfSome, Ok, Err, Some, ◌⊎◌}
use Rattle.base_words.specs.Bursts.{queue_just_picked}
use Rattle.base_words.specs.Lawful.{GoesOn}
use Rattle.base_words.specs.declared.note.Note.TheVariants as writes
use Rattle.base_jobs.specs.Calls.Call.{Submit, Redeem, Detach}
use Rattle.actor_core.specs.RightAnswers.{Seen, call_notes, posted_notes, AreRightAnswers}
use Rattle.actor_core.specs.OwedPolls.{IsPollOf}

module _ {T : Type 0} where
  posts-append : (later earlier : List (Note T)) → ArePosts later → ArePosts earlier → ArePosts (later ++ earlier)
  posts-append [] earlier one two = two
  posts-append (writes.Sent name order ∷ later) earlier one two = posts-append later earlier one two
  posts-append (writes.Redeemed name outcome ∷ later) earlier one two = posts-append later earlier one two
  posts-append (writes.Detached name ∷ later) earlier one two = posts-append later earlier one two
  posts-append (_ ∷ later) earlier one two = absurd one

  -- what was posted isn't the beginning of a poll, nor a delivery
  begins_no_post : (note : Note T) (notes : List (Note T)) → ArePosts (note ∷ notes) → (name : JobId) (started : Bool) → poll_note name started ≡ note → ⊥
  begins_no_post (writes.Sent other order) notes posts name false same = cc
  begins_no_post (writes.Sent other order) notes posts name true same = cc
  begins_no_post (writes.Redeemed other outcome) notes posts name false same = cc
  begins_no_post (writes.Redeemed other outcome) notes posts name true same = cc
  begins_no_post (writes.Detached other) notes posts name false same = cc
  begins_no_post (writes.Detached other) notes posts name true same = cc
  begins_no_post _ notes posts name started same = absurd posts

  fewer_posts : (note : Note T) (notes : List (Note T)) → ArePosts (note ∷ notes) → ArePosts notes
  fewer_posts (writes.Sent other order) notes posts = posts
  fewer_posts (writes.Redeemed other outcome) notes posts = posts
  fewer_posts (writes.Detached other) notes posts = posts
  fewer_posts _ notes posts = absurd posts

  pub one_beginning : (posts more : List (Note T)) (name other : JobId) (started again : Bool) (before earlier : Journal T) → ArePosts posts → ArePosts more →
      posts ++ poll_note name started ∷ before ≡ more ++ poll_note other again ∷ earlier → (more ≡ posts) × (poll_note other again ∷ earlier ≡ poll_note name started ∷ before)
  one_beginning [] [] name other started again before earlier one two same = (refl, sym same)
  one_beginning [] (note ∷ more) name other started again before earlier one two same = absurd (begins_no_post note more two name started (cc))
  one_beginning (note ∷ posts) [] name other started again before earlier one two same = absurd (begins_no_post note posts one other again (cc))
  one_beginning (note ∷ posts) (next ∷ more) name other started again before earlier one two same =
      let heads : next ≡ note = cc in
      let tails : posts ++ poll_note name started ∷ before ≡ more ++ poll_note other again ∷ earlier = cc in
      let rest = one_beginning posts more name other started again before earlier (fewer_posts note posts one) (fewer_posts next more two) tails in
      ((λ i. heads i ∷ rest.0 i), rest.1)

module _ {J T : Type 0} where
  call_posts : (call : Call J T) → ArePosts (call_notes call)
  call_posts (Submit to order (Ok name)) = tt
  call_posts (Submit to order (Err error)) = tt
  call_posts (Redeem name (Ok outcome)) = tt
  call_posts (Redeem name (Err error)) = tt
  call_posts (Detach name (Ok done)) = tt
  call_posts (Detach name (Err error)) = tt

  -- what calls of a post write is posted
  pub calls_post : (calls : List (Call J T)) → ArePosts (posted_notes calls)
  calls_post [] = tt
  calls_post (call ∷ calls) = posts-append (posted_notes calls) (call_notes call) (calls_post calls) (call_posts call)

module _ {J T : Type 0} (meaning : Meaning J T) (terms : Terms) (seen : Seen J) (sent : J) (name : JobId) (time : ℕ) (step : Step T) where
  -- the poll with these posts, which began behind these notes
  pub record IsPollBehind (posts : List (Note T)) (started : Bool) (earlier : Journal T) : Type 0 where
    pub queue : ℕ
    pub due : (queue_just_picked earlier ≡ Some queue) ⊎ GoesOn terms.burst queue earlier
    pub calls : List (Call J T)
    pub told : Option ℕ
    pub wrote : posted_notes calls ≡ posts
    pub right : AreRightAnswers terms seen calls (poll_note name started ∷ earlier)
    pub owed : meaning.polls sent (meaning.made sent + polls_made name earlier) calls step told
    pub answered : IfDone step (meaning.answers sent)
    pub timed : IfSome told (λ stated. stated ≡ time)

  pub poll_behind : (chosen : ℕ) (posts : List (Note T)) (started : Bool) (earlier : Journal T) → ArePosts posts →
      IsPollOf meaning terms seen chosen sent name time step (posts ++ poll_note name started ∷ earlier) → IsPollBehind posts started earlier
  poll_behind chosen posts started earlier are poll = record {
    queue = chosen;
    due = subst (λ before. (queue_just_picked before ≡ Some chosen) ⊎ GoesOn terms.burst chosen before) before_is poll.due;
    calls = poll.calls;
    told = poll.told;
    wrote = parts.0;
    right = subst (λ before. AreRightAnswers terms seen poll.calls before) parts.1 poll.right;
    owed = subst (λ before. meaning.polls sent (meaning.made sent + polls_made name before) poll.calls step poll.told) before_is poll.owed;
    answered = poll.answered;
    timed = poll.timed;
  }
    where
      parts : (posted_notes poll.calls ≡ posts) × (poll_note name poll.was_started ∷ poll.earlier ≡ poll_note name started ∷ earlier)
      parts = one_beginning posts (posted_notes poll.calls) name name started poll.was_started _ _ are (calls_post poll.calls) poll.stands

      before_is : poll.earlier ≡ earlier
      before_is = let same : poll_note name poll.was_started ∷ poll.earlier ≡ poll_note name started ∷ earlier = parts.1 in cc
