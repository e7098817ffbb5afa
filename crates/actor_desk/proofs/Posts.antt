-- What a call at the post notes, and what one call upon another has posted.
use Rattle.actor_desk.proofs.Names.{◌≡◌, ◌⊎◌, inl, inr, ℕ, ◌+◌, ◌*◌, ◌<◌, ◌≤◌, List, [], ◌∷◌, ◌++◌, length}
use Rattle.actor_desk.proofs.Names.{append_assoc, Some, refl, sym, ◌∙◌, ap, subst, arith, set, get_or, sum_by}
use Rattle.actor_desk.proofs.Names.{slice_get, eqb_tells, length-append, sum_by-le, sum_by-set, slice_get-get_or}
use Rattle.actor_desk.proofs.Names.{slice_get_within, get_or_from_slice_get, Note, Sent, Redeemed, Order}
use Rattle.actor_desk.proofs.Names.{Outcome, Outward, IsPrefix-along, IsPrefix-self, slice_get-behind, Lane, changed}
use Rattle.actor_desk.proofs.Names.{unchanged, option_cases, DeskView, IsOutOf, KnowsLanes, HasLane, left_of}
use Rattle.actor_desk.proofs.Names.{Spends, PostView, ArePosts, SendsMore, AreOutsOf, IsLent, HasPosted}
use Rattle.actor_desk.proofs.Names.{LendsEnd}
use Rattle.std.proofs.lemmas.List.{length-set}
use Rattle.base_words.specs.declared.note.Note.TheVariants.{Detached}
use Rattle.actor_desk.proofs.Spending.{left_within}

-- what has sent more, and then more again, has sent more
sends_then : {J T : Type 0} (first middle last : Outward J T) → SendsMore first middle → SendsMore middle last → SendsMore first last
sends_then first middle last one two = (
  two.0 ∙ ap (λ (end : Outward _ _). record end { sent = last.sent; closed = last.closed }) one.0,
  IsPrefix-along first.sent middle.sent last.sent one.1 two.1,
  λ shut. let same = one.2 shut in two.2 (ap (λ (end : Outward _ _). end.closed) same ∙ shut) ∙ same,
)

-- an end that was not used
pub sends_nothing : {J T : Type 0} (old new : Outward J T) → new ≡ old → SendsMore old new
sends_nothing old new same = subst (SendsMore old) (sym same) (refl, IsPrefix-self old.sent, λ shut. refl)

-- there is an item at each place
item_at : {A : Type 0} (items : List A) (place : ℕ) → place < length items → (item : A) × (slice_get items place ≡ Some item)
item_at items place within = elim (option_cases (slice_get items place)) [
  | inl none ↦ absurd (let behind : length items ≤ place = slice_get-behind items place none in omega (arith, behind, within))
  | inr some ↦ some
]

module _ {J T E : Type 0} {fits : Order J → Outcome J T → Type 0} {out : E → Outward J T} {credited : E → ℕ} where
  -- the room that is asked for is enough for all that can be noted
  pub room_for : (desk : DeskView J T) (ends : List E) → AreOutsOf fits out credited desk ends → KnowsLanes desk → sum_by left_of desk.lanes ≤ desk.cores * (3 * desk.cap)
  room_for desk ends outs known =
      subst (λ count. sum_by left_of desk.lanes ≤ count * (3 * desk.cap)) known.cores_are
      (sum_by-le left_of (3 * desk.cap) desk.lanes (λ place default within. low place default within (end_at place within)))
    where
      end_at : (place : ℕ) → place < length desk.lanes → (end : E) × (slice_get ends place ≡ Some end)
      end_at place within = item_at ends place (omega (arith, within, known.cores_are, outs.count))

      low : (place : ℕ) (default : Lane J T) → place < length desk.lanes → (end : E) × (slice_get ends place ≡ Some end) → left_of (get_or desk.lanes place default) ≤ 3 * desk.cap
      low place default within end =
          let has = outs.lanes place end.0 end.1 in
          let its : slice_get desk.lanes place ≡ Some (get_or desk.lanes place default) = slice_get-get_or desk.lanes place default within in
          let same : has.lane ≡ get_or desk.lanes place default = let e : slice_get desk.lanes place ≡ Some has.lane = has.is in cc in
          subst (λ lane. left_of lane ≤ 3 * desk.cap) same
          (left_within has.lane desk.cap (out end.0) (credited end.0) has.lane_of (outs.beside place end.0 end.1).capacity)

-- posts upon posts
are_posts : {T : Type 0} (later earlier : List (Note T)) → ArePosts later → ArePosts earlier → ArePosts (later ++ earlier)
are_posts [] earlier posts before = before
are_posts (Sent name order ∷ later) earlier posts before = are_posts later earlier posts before
are_posts (Redeemed name outcome ∷ later) earlier posts before = are_posts later earlier posts before
are_posts (Detached name ∷ later) earlier posts before = are_posts later earlier posts before
are_posts (_ ∷ later) earlier posts before = absurd posts

module _ {J T E : Type 0} {out : E → Outward J T} {untouched : E → List ℕ} where
  -- what posted nothing
  pub posted_nothing : (post : PostView J T E) → HasPosted out untouched post post
  posted_nothing post = record {
    notes = [];
    posts = tt;
    desk = refl;
    few = omega arith;
    count = refl;
    ends = λ core was end was_there there.
        let same : was ≡ end = cc in
        (ap untouched (sym same), subst (λ end. SendsMore (out was) (out end)) same (sends_nothing (out was) (out was) refl));
  }

  -- and what posted twice
  pub posted_then : (first middle last : PostView J T E) → HasPosted out untouched first middle → HasPosted out untouched middle last → HasPosted out untouched first last
  posted_then first middle last one two = record {
    notes = two.notes ++ one.notes;
    posts = are_posts two.notes one.notes two.posts one.posts;
    desk =
        two.desk
        ∙ (ap (λ (desk : DeskView J T). record desk { journal = record desk.journal { notes = two.notes ++ desk.journal.notes }; lanes = last.desk.lanes }) one.desk
        ∙ ap (λ notes. record first.desk { journal = record first.desk.journal { notes = notes }; lanes = last.desk.lanes }) (sym (append_assoc two.notes one.notes first.desk.journal.notes)));
    few = omega (arith, one.few, two.few, length-append two.notes one.notes);
    count = two.count ∙ one.count;
    ends = λ core was end was_there there.
        let between = item_at middle.ends core (omega (arith, slice_get_within first.ends core was was_there, one.count)) in
        let before = one.ends core was between.0 was_there between.1 in
        let after = two.ends core between.0 end between.1 there in
        (after.0 ∙ before.0, sends_then (out was) (out between.0) (out end) before.1 after.1);
  }

-- each note leaves fewer that can be made
fewer_left : {J T : Type 0} (core more : ℕ) (old new : DeskView J T) → Spends core more old new → sum_by left_of new.lanes < sum_by left_of old.lanes
fewer_left core more old new spends =
    let within : core < length old.lanes = slice_get_within old.lanes core spends.lane spends.was in
    let its : get_or old.lanes core spends.lane ≡ spends.lane = get_or_from_slice_get old.lanes core spends.lane spends.lane spends.was in
    let swapped : sum_by left_of (set old.lanes core spends.later) + left_of (get_or old.lanes core spends.lane) ≡ sum_by left_of old.lanes + left_of spends.later = sum_by-set left_of old.lanes core spends.later spends.lane within in
    omega (arith, swapped, ap left_of its, ap (sum_by left_of) spends.lanes, spends.fewer)

-- what a call notes: nothing, or one thing, which is a post
abbrev pub NotesOne : {J T : Type 0} → ℕ → DeskView J T → DeskView J T → Type 0
NotesOne {T} core old new =
    (new ≡ old) ⊎ ((note : Note T) × ArePosts (note ∷ []) × (new.journal ≡ record old.journal { notes = note ∷ old.journal.notes }) × (more : ℕ) × Spends core more old new)

module _ {J T E : Type 0} {fits : Order J → Outcome J T → Type 0} {out : E → Outward J T} {credited : E → ℕ} {untouched : E → List ℕ} where
  -- a call on the end of one core
  module _ (old new : PostView J T E) (core : ℕ) (lent : LendsEnd fits out credited untouched core old new) (notes : NotesOne core old.desk new.desk) where
    set_at : (other : ℕ) (its : E) → slice_get new.ends other ≡ Some its → slice_get (set old.ends core lent.later) other ≡ Some its
    set_at other its at = ap (λ ends. slice_get ends other) (sym lent.ends) ∙ at

    outs_now : AreOutsOf fits out credited old.desk old.ends → AreOutsOf fits out credited new.desk new.ends
    outs_now outs = record {
      count = ap length lent.ends ∙ (length-set old.ends core lent.later ∙ (outs.count ∙ ap (λ desk. desk.cores) (sym lent.stays.rest)));
      beside = λ other its at. elim (eqb_tells other core) [
        | inl one ↦ subst (λ end. IsOutOf other new.desk (out end) (credited end)) (sym (changed old.ends core other lent.later its (set_at other its at) one.1)) (subst (λ core. IsOutOf core new.desk (out lent.later) (credited lent.later)) (sym one.1) lent.stays.beside)
        | inr away ↦ (lent.stays.others other away.1).each (out its) (credited its) (outs.beside other its (unchanged old.ends core other lent.later its (set_at other its at) away.1))
      ];
      lanes = λ other its at. elim (eqb_tells other core) [
        | inl one ↦ subst (λ end. HasLane fits other new.desk (out end) (credited end)) (sym (changed old.ends core other lent.later its (set_at other its at) one.1)) (subst (λ core. HasLane fits core new.desk (out lent.later) (credited lent.later)) (sym one.1) lent.stays.lane)
        | inr away ↦
            let had = outs.lanes other its (unchanged old.ends core other lent.later its (set_at other its at) away.1) in
            record { lane = had.lane; is = lent.stays.lanes other away.1 ∙ had.is; lane_of = had.lane_of }
      ];
    }

    pub lent_noted : IsLent fits out credited old → IsLent fits out credited new
    lent_noted is = record {
      outs = outs_now is.outs;
      spare = elim notes [
        | inl same ↦ subst (λ desk. length desk.journal.notes + sum_by left_of desk.lanes < desk.journal.room) (sym same) is.spare
        | inr one ↦ omega (arith, is.spare, fewer_left core one.3 old.desk new.desk one.4, ap (λ journal. length journal.notes) one.2, ap (λ journal. journal.room) one.2)
      ];
    }

    ends_now : SendsMore (out lent.end) (out lent.later) →
        (other : ℕ) (was its : E) → slice_get old.ends other ≡ Some was → slice_get new.ends other ≡ Some its → (untouched its ≡ untouched was) × SendsMore (out was) (out its)
    ends_now sends other was its was_there at = elim (eqb_tells other core) [
      | inl one ↦
          let its_is : its ≡ lent.later = changed old.ends core other lent.later its (set_at other its at) one.1 in
          let was_is : was ≡ lent.end = let e : slice_get old.ends other ≡ Some lent.end = ap (slice_get old.ends) one.1 ∙ lent.is in cc in
          subst (λ was. (untouched its ≡ untouched was) × SendsMore (out was) (out its)) (sym was_is)
          (subst (λ its. (untouched its ≡ untouched lent.end) × SendsMore (out lent.end) (out its)) (sym its_is) (lent.untouched, sends))
      | inr away ↦
          let one : was ≡ its = let e : slice_get old.ends other ≡ Some its = unchanged old.ends core other lent.later its (set_at other its at) away.1 in cc in
          (ap untouched (sym one), subst (λ its. SendsMore (out was) (out its)) one (sends_nothing (out was) (out was) refl))
    ]

    pub posted_noted : SendsMore (out lent.end) (out lent.later) → HasPosted out untouched old new
    posted_noted sends = elim notes [
      | inl same ↦ record {
        notes = [];
        posts = tt;
        desk = subst (λ later. later ≡ record old.desk { journal = record old.desk.journal { notes = old.desk.journal.notes }; lanes = later.lanes }) (sym same) refl;
        few = omega (arith, ap (λ (desk : DeskView J T). sum_by left_of desk.lanes) same);
        count = ap length lent.ends ∙ length-set old.ends core lent.later;
        ends = ends_now sends;
      }
      | inr one ↦ record {
        notes = one.0 ∷ [];
        posts = one.1;
        desk = lent.stays.rest ∙ ap (λ notes. record old.desk { journal = record old.desk.journal { notes = notes }; lanes = new.desk.lanes }) (ap (λ journal. journal.notes) one.2);
        few = omega (arith, fewer_left core one.3 old.desk new.desk one.4);
        count = ap length lent.ends ∙ length-set old.ends core lent.later;
        ends = ends_now sends;
      }
    ]
