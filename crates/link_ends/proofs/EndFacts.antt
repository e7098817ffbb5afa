-- What a law of a link gives to those who hold it, and what an end's calls keep.
use Rattle.std.proofs.Common.{◌≡◌, ℕ, ◌+◌, ◌-◌, ◌^◌, ◌<◌, ◌≤◌, [], ◌∷◌, ◌++◌, length, length-append, length-take, take, Result, Ok, Err, refl, sym, subst, arith}
use Rattle.base_words.specs.declared.order.Order.{Order}
use Rattle.base_words.specs.declared.order.Outcome.{Outcome}
use Rattle.base_words.specs.declared.order.SendError.{SendError}
use Rattle.base_words.specs.declared.order.SendError.TheVariants.{Closed, Full, Spent, NoCore}
use Rattle.link_ends.specs.declared.ends.Outward.{Outward}
use Rattle.link_ends.specs.declared.plain.Whole.{Whole}
use Rattle.base_words.specs.Assembly.{IsPrefix}
use Rattle.link_ends.specs.Ends.{SoundOut, SoundIn, Joined}
use Rattle.link_ends.specs.Calls.{Sends}
use Rattle.link_ends.specs.Whole.{out_of, inward_of, IsLink}
use Rattle.base_words.proofs.Prefixes.{IsPrefix-self, IsPrefix-take}

module _ {J T : Type 0} {fits : Order J → Outcome J T → Type 0} {ready : Order J → Type 0} {link : Whole J T} (l : IsLink fits ready link) where
  pub SoundOut-IsLink : SoundOut (out_of link) link.credited
  SoundOut-IsLink = record {
    numbered = l.numbered;
    room = l.room;
    credits = l.credited_got;
    behind = l.got_given;
    within = omega (arith, l.got_given, l.given_taken, l.taken_sent);
  }

  pub SoundIn-IsLink : SoundIn (inward_of link)
  SoundIn-IsLink = record {
    numbered = l.numbered;
    behind = l.taken_sent;
    within = l.given_taken;
    room = omega (arith, l.room, l.credited_got, l.got_given);
    named = l.named;
  }

  pub Joined-IsLink : Joined (out_of link) (inward_of link)
  Joined-IsLink = record {
    from = refl;
    to = refl;
    base = refl;
    capacity = refl;
    orders = IsPrefix-self link.sent;
    outcomes = IsPrefix-self link.given;
    gate = λ h. h;
    final = λ h. refl;
  }

  -- at most `capacity` orders are sent and not credited
  pub outstanding-IsLink : length link.sent - link.credited ≤ link.capacity
  outstanding-IsLink = omega (arith, l.room)

  -- a delivery finds room: at most `capacity` orders are taken and not given
  pub room-IsLink : link.taken ≤ length link.given + link.capacity
  room-IsLink = omega (arith, l.room, l.credited_got, l.got_given, l.taken_sent)

  -- what was taken is a beginning of what was sent
  pub taken-IsLink : IsPrefix (take link.taken link.sent) link.sent × (length (take link.taken link.sent) ≡ link.taken)
  taken-IsLink = (IsPrefix-take link.taken link.sent, omega (arith, l.taken_sent, length-take link.taken link.sent))

  -- what was got is a beginning of what was given
  pub got-IsLink : IsPrefix (take link.got link.given) link.given × (length (take link.got link.given) ≡ link.got)
  got-IsLink = (IsPrefix-take link.got link.given, omega (arith, l.got_given, length-take link.got link.given))

module _ {J T : Type 0} where
  -- a send keeps what is true of a sender's end
  pub SoundOut-Sends : (old new : Outward J T) (credited : ℕ) (order : Order J) (result : Result ℕ (SendError J))
      → SoundOut old credited → Sends old credited order new result → SoundOut new credited
  SoundOut-Sends old new credited order (Ok number) s sends =
      let longer : length (old.sent ++ order ∷ []) ≡ length old.sent + 1 = length-append old.sent (order ∷ []) in
      let room : length old.sent < credited + old.capacity = sends.1 in
      let named : number ≡ old.base + length old.sent + 1 = sends.2 in
      let low : number < 2 ^ 63 = sends.3 in
      subst (λ o. SoundOut o credited) (sym sends.4) record {
        numbered = omega arith;
        room = omega arith;
        credits = s.credits;
        behind = s.behind;
        within = omega (arith, s.within);
      }
  SoundOut-Sends old new credited order (Err (Closed back final)) s sends =
      subst (λ o. SoundOut o credited) (sym sends.2) record { numbered = s.numbered; room = s.room; credits = s.credits; behind = s.behind; within = s.within }
  SoundOut-Sends old new credited order (Err (Full back)) s sends = subst (λ o. SoundOut o credited) (sym sends.3) s
  SoundOut-Sends old new credited order (Err (Spent back)) s sends = subst (λ o. SoundOut o credited) (sym sends.4) s
  SoundOut-Sends old new credited order (Err (NoCore back)) s sends = absurd sends

  -- so does a credit
  pub SoundOut-credit : (out : Outward J T) (credited : ℕ) → SoundOut out credited → credited < out.got → SoundOut out (credited + 1)
  SoundOut-credit out credited s more = record {
    numbered = s.numbered;
    room = omega (arith, s.room);
    credits = omega arith;
    behind = s.behind;
    within = s.within;
  }
