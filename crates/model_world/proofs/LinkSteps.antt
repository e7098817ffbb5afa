-- What one end of a plain link does, as the other end sees it.
use Rattle.model_world.proofs.LinkWords.{◌≡◌, ℕ, Bool, true, List, [], ◌++◌, refl, sym, ◌∙◌, ap, subst, get_or, append-nil, Order, Whole, out_of, inward_of}
use Rattle.model_world.proofs.LinkWords.{slice_get, RecordedView, IsOutOf, IsInOf, link_at, Outcome, IsPrefix, kept_by_sender, DeskView, HasLane}
use Rattle.model_world.proofs.LinkWords.{ChangesLink}
use Rattle.actor_desk.specs.Lanes.{IsLaneOf}
use Rattle.link_ends.specs.Ends.{Joined}
use Rattle.actor_desk.proofs.LaneEnds.{sees_more_lane}
use Rattle.actor_core.proofs.EndsKept.{sees_more_in}
use Rattle.actor_desk.proofs.OutEnds.{sees_more_out}
use Rattle.model_world.proofs.Places.{by_place}

module _ {J T : Type 0} where
  -- the receiver alone did something on the link: what the sender has seen is as much or more
  pub record OnlyReceived (old new : Whole J T) : Type 0 where
    pub rest : new ≡ record old { taken = new.taken; given = new.given; shut = new.shut }
    pub given : IsPrefix old.given new.given

  -- the sender alone did something on the link: what the receiver has seen is as much or more, and the same where the gate is shut
  pub record OnlySent (old new : Whole J T) : Type 0 where
    pub rest : new ≡ record old { sent = new.sent; got = new.got; credited = new.credited }
    pub sent : IsPrefix old.sent new.sent
    pub gate : old.shut ≡ true → new.sent ≡ old.sent

  pub received-same : (link : Whole J T) → OnlyReceived link link
  received-same link = record { rest = refl; given = ([], sym (append-nil link.given)) }

  -- what is given on a link, the receiver alone does
  pub received-given : (old new : Whole J T) (given : List (ℕ × Outcome J T)) → new ≡ record old { given = old.given ++ given } → OnlyReceived old new
  received-given old new given is = subst (OnlyReceived old) (sym is) (record { rest = refl; given = (given, refl) })

  pub sent-same : (link : Whole J T) → OnlySent link link
  sent-same link = record { rest = refl; sent = ([], sym (append-nil link.sent)); gate = λ shut. refl }

  -- of a link of which its sender's end changed in these, no more changed
  pub sender_rest : (old new : Whole J T) {sent : List (Order J)} {seen : List (ℕ × Outcome J T)} {got : ℕ} {closed : Bool} → kept_by_sender new ≡ kept_by_sender old →
      out_of new ≡ record (out_of old) { sent = sent; seen = seen; got = got; closed = closed } → new.given ≡ old.given → new.shut ≡ old.shut →
      new ≡ record old { sent = new.sent; got = new.got; credited = new.credited }
  sender_rest old new untouched is given shut = λ i. record {
    from = ap (λ out. out.from) is i;
    to = ap (λ out. out.to) is i;
    base = ap (λ out. out.base) is i;
    capacity = ap (λ out. out.capacity) is i;
    sent = new.sent;
    taken = ap (λ kept. get_or kept 0 0) untouched i;
    given = given i;
    got = new.got;
    credited = new.credited;
    shut = shut i;
  }

  -- a sender's end and its lane are beside its desk
  pub record IsSenderOn (fits : Order J → Outcome J T → Type 0) (core : ℕ) (desk : DeskView J T) (link : Whole J T) : Type 0 where
    pub out : IsOutOf core desk (out_of link) link.credited
    pub lane : HasLane fits core desk (out_of link) link.credited

  -- they stay so, where the receiver alone did something, and the actor's lanes are the same
  pub sender_stays : {fits : Order J → Outcome J T → Type 0} {core : ℕ} {desk later : DeskView J T} {old new : Whole J T} → later.lanes ≡ desk.lanes → OnlyReceived old new →
      (IsOutOf core desk (out_of old) old.credited → IsOutOf core later (out_of old) old.credited) → IsSenderOn fits core desk old → IsSenderOn fits core later new
  sender_stays {fits = fits} {core = core} {desk = desk} {later = later} {old = old} {new = new} lanes received kept is =
      let credited = sym (ap (λ link. link.credited) received.rest) in
      let seen = sees_more_lane fits core desk (out_of old) (out_of new) old.credited (record { rest = ap out_of received.rest; seen = received.given }) is.lane in
      record {
        out = subst (IsOutOf core later (out_of new)) credited
            (sees_more_out core later (out_of old) (out_of new) old.credited (record { rest = ap out_of received.rest; seen = received.given }) (kept is.out));
        lane = record {
          lane = seen.lane;
          is = ap (λ all. slice_get all core) lanes ∙ seen.is;
          lane_of = subst (λ credited. IsLaneOf fits seen.lane (out_of new) credited) credited seen.lane_of;
        };
      }

  pub in_stays : (sender : ℕ) (view : RecordedView J T) (old new : Whole J T) → OnlySent old new → IsInOf sender view (inward_of old) → IsInOf sender view (inward_of new)
  in_stays sender view old new sent is =
      sees_more_in sender view (inward_of old) (inward_of new) (ap inward_of sent.rest) (sent.sent, sent.gate) is

  -- what is so of each link and itself is so of each link that didn't change
  pub other_link : (P : Whole J T → Whole J T → Type 0) → ((link : Whole J T) → P link link) →
      (old new : List (List (Whole J T))) (s d : ℕ) (link : Whole J T) → ChangesLink old new s d link → (r e : ℕ) → (r ≡ s → e ≡ d → ⊥) →
      P (link_at r e old) (link_at r e new)
  other_link P same old new s d link changes r e differs = subst (P (link_at r e old)) (sym (changes.others r e differs)) (same (link_at r e old))

  -- and of all, if it is so of the one that changed
  pub each_link : (P : Whole J T → Whole J T → Type 0) → ((link : Whole J T) → P link link) →
      (old new : List (List (Whole J T))) (s d : ℕ) (link : Whole J T) → ChangesLink old new s d link → P (link_at s d old) link →
      (r e : ℕ) → P (link_at r e old) (link_at r e new)
  each_link P same old new s d link changes here r e =
      by_place (λ r. P (link_at r e old) (link_at r e new)) s
      (by_place (λ e. P (link_at s e old) (link_at s e new)) d (subst (P (link_at s d old)) (sym changes.changed) here)
      (λ e away. other_link P same old new s d link changes s e (λ one two. away two)) e)
      (λ r away. other_link P same old new s d link changes r e (λ one two. away one)) r

  -- no link changed
  pub no_change : (links : List (List (Whole J T))) (s d : ℕ) → ChangesLink links links s d (link_at s d links)
  no_change links s d = record { changed = refl; others = λ r e differs. refl; same_rows = refl; same_cores = λ r. refl }

-- a plain link shows each end all that the other did
pub plain_joined : {J T : Type 0} (link : Whole J T) → Joined (out_of link) (inward_of link)
plain_joined link = record {
  from = refl;
  to = refl;
  base = refl;
  capacity = refl;
  orders = ([], sym (append-nil link.sent));
  outcomes = ([], sym (append-nil link.given));
  gate = λ shut. shut;
  final = λ shut. refl;
}
