-- The receiver's seat is joined to the sender's, which then knows both ends.
use Rattle.link_board.proofs.Names.{Allows, ap, AreNamed, AreOf, AreTold, arith, at_set, both_parts, Compares, IfSome, Inward, IsLink, IsPrefix, IsPrefix-take, IsTold, Joined, Joins, keeps, Known, KnowsInward, KnowsOut, length, length-take}
use Rattle.link_board.proofs.Names.{List, min, None, Order, Outcome, Outward, refl, Seated, set, set_again, slice_get-starts, spent_view, subst, sym, take, Terms, true, Whole, ℕ, ⊎_elim, ◌+◌, ◌-◌, ◌<◌, ◌∙◌, ◌≡◌, ◌≤◌}
use Rattle.std.proofs.Common.{Option}
use mathlib.Core.Option.{some}
use lib.ListN.{get_elem?}
use denote.RawPtr.{Ptr}
use Rattle.link_board.proofs.Starting.{gate_lies}
use Rattle.link_board.proofs.Steps.{Rule, on_gate, gate_keeps}
use Rattle.link_board.proofs.Views.{true-not_false, one_sender, one_receiver}

-- what is of all orders is of those taken, where the numbers are theirs
AreOf-taken : {J T : Type 0} (fits : Order J → Outcome J T → Type 0) (base taken : ℕ) (orders : List (Order J)) (outcomes : List (ℕ × Outcome J T)) → taken ≤ length orders
    → AreNamed base taken outcomes → AreOf fits base orders outcomes → AreOf fits base (take taken orders) outcomes
AreOf-taken fits base taken orders outcomes within named are = (
  λ i x e. let low : base < x.0 = (named.0 i x e).0 in let high : x.0 ≤ base + taken = (named.0 i x e).1 in
      let long : length (take taken orders) ≡ min taken (length orders) = length-take taken orders in (
        low,
        subst (λ (z : Option (Order _)). IfSome z (λ order. fits order x.1)) (slice_get-starts orders (take taken orders) (x.0 - base - 1) (IsPrefix-take taken orders) (omega arith)) (are.0 i x e).1,
        omega arith,
      ),
  are.1,
)

module _ {J T : Type 0} (link : Whole J T) (out : Outward J T) (inward : Inward J T) (o : KnowsOut link out) (k : KnowsInward link inward) where
  -- the ends that know one link are joined
  Joined-knows : Joined out inward
  Joined-knows = record {
    from = ap (λ (i : Inward J T). i.from) k.knows ∙ ap (λ (o : Outward J T). o.from) (sym o.knows);
    to = ap (λ (i : Inward J T). i.to) k.knows ∙ ap (λ (o : Outward J T). o.to) (sym o.knows);
    base = ap (λ (i : Inward J T). i.base) k.knows ∙ ap (λ (o : Outward J T). o.base) (sym o.knows);
    capacity = ap (λ (i : Inward J T). i.capacity) k.knows ∙ ap (λ (o : Outward J T). o.capacity) (sym o.knows);
    orders = subst (λ (z : Outward J T). IsPrefix inward.seen z.sent) (sym o.knows) k.sees;
    outcomes = subst (λ (z : Inward J T). IsPrefix out.seen z.given) (sym k.knows) o.sees;
    gate = λ closed. ap (λ (i : Inward J T). i.shut) k.knows ∙ o.gate closed;
    final = λ shut. k.final (ap (λ (i : Inward J T). i.shut) (sym k.knows) ∙ shut) ∙ ap (λ (o : Outward J T). o.sent) (sym o.knows);
  }

  AreOf-knows : (fits : Order J → Outcome J T → Type 0) (ready : Order J → Type 0) → IsLink fits ready link → AreOf fits out.base (take inward.taken out.sent) inward.given
  AreOf-knows fits ready law =
      subst (λ (z : Outward J T). AreOf fits z.base (take inward.taken z.sent) inward.given) (sym o.knows)
      (subst (λ (z : Inward J T). AreOf fits link.base (take z.taken link.sent) z.given) (sym k.knows)
      (AreOf-taken fits link.base link.taken link.sent link.given law.taken_sent law.named law.fitting))

module _ {J T : Type 0} (fits : Order J → Outcome J T → Type 0) (ready : Order J → Type 0) (terms : Terms J T) (at : Ptr) (same : terms.gate.ptr ≡ at) where
  -- what the seat learns that knows both ends
  pub compares : (seat : ℕ) (old : Seated J T) → old.view.sends ≡ true → old.view.takes ≡ true → Allows (Rule fits ready terms) seat old 0 at 0 (λ z. z) (λ _. Compares fits old)
  compares seat old go on s r there =
      let view : Known J T = old.view in let o = ((r.views seat view there).sends go).1 in let k = ((r.views seat view there).takes on).1 in
      let told : AreTold r.link r.sender r.receiver r.out_sender r.out_receiver (set s.views seat view) =
      subst (AreTold r.link r.sender r.receiver r.out_sender r.out_receiver) (sym (set_again s.views seat view there)) r.views in
      on_gate fits ready terms s r seat old at (λ z. z) (λ _. Compares fits old) same (
        view,
        keeps,
        tt,
        gate_keeps fits ready terms s r (set s.views seat view) told,
        record { same = refl; joined = Joined-knows r.link view.out view.inward o k; outcomes = AreOf-knows r.link view.out view.inward o k fits ready r.law },
      )

  -- the sender's seat takes in what the receiver's knows
  pub joins : (seat : ℕ) (view : Known J T) (other : ℕ) (token : Known J T) → view.sends ≡ true → view.away ≡ None → token.takes ≡ true → token.away ≡ None
      → Joins (Rule fits ready terms) 0 at seat view other token (both_parts view token) spent_view
  joins seat view other token go rests on rests' s r = (
    gate_lies fits ready terms s r at same,
    λ there differs other_there.
        let told = r.views seat view there in let both : Known J T = both_parts view token in let views : List (Known J T) = set s.views seat both in
        let was : get_elem? s.views other ≡ some token = ⊎_elim (λ mine. absurd (differs mine.0)) (λ else. else.1) (at_set s.views seat other both token other_there) in
        let told' = r.views other token was in
        record {
          link = r.link;
          sender = seat;
          receiver = seat;
          out_sender = r.out_sender;
          out_receiver = r.out_receiver;
          gate = r.gate;
          cells = r.cells;
          law = r.law;
          credits = r.credits;
          terms_are = r.terms_are;
          laid = record { rows = r.laid.rows; len = r.laid.len; enough = r.laid.enough; some = r.laid.some };
          gate_word = r.gate_word;
          marked = r.marked;
          in_place = r.in_place;
          views = λ id now here. ⊎_elim
              (λ mine. subst (IsTold r.link seat seat r.out_sender r.out_receiver id) mine.1 (record {
                sends = λ no. absurd (true-not_false (sym no));
                takes = λ no. absurd (true-not_false (sym no));
              }))
              (λ apart. ⊎_elim
              (λ mine. subst (IsTold r.link seat seat r.out_sender r.out_receiver id) mine.1 (record {
                sends = λ _. (mine.0, (told.sends go).1, (told.sends go).2);
                takes = λ _. (mine.0, (told'.takes on).1, rests ∙ (sym rests' ∙ (told'.takes on).2));
              }))
              (λ else. record {
                sends = λ also. absurd (else.0 (one_sender r.link r.sender r.receiver r.out_sender r.out_receiver s.views r.views seat id view now there else.1 go also));
                takes = λ also. absurd (apart.0 (one_receiver r.link r.sender r.receiver r.out_sender r.out_receiver s.views r.views other id token now was else.1 on also));
              })
              (at_set s.views seat id both now apart.1))
              (at_set views other id spent_view now here);
        },
  )

-- what was learned of both ends, by the end that each seat was
pub Compares-ends : {J T : Type 0} (fits : Order J → Outcome J T → Type 0) (sender receiver joined last : Seated J T)
    → joined.view ≡ both_parts sender.view receiver.view → Compares fits joined last
    → Joined sender.view.out receiver.view.inward × AreOf fits sender.view.out.base (take receiver.view.inward.taken sender.view.out.sent) receiver.view.inward.given
Compares-ends {J} {T} fits sender receiver joined last both told = (
  subst (λ (z : Known J T). Joined z.out z.inward) both told.joined,
  subst (λ (z : Known J T). AreOf fits z.out.base (take z.inward.taken z.out.sent) z.inward.given) both told.outcomes,
)
