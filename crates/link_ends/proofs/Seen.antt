-- Where both ends see all, a call gets what comes next, and `None` only where nothing is left.
use Rattle.std.proofs.Common.{◌≡◌, ℕ, ◌+◌, ◌≤◌, length, refl, arith, Some, None}
use Rattle.std.specs.Prelude.{slice_get}
use Rattle.base_words.specs.declared.order.Order.{Order}
use Rattle.base_words.specs.declared.order.Outcome.{Outcome}
use Rattle.link_ends.specs.declared.plain.Whole.{Whole}
use Rattle.link_ends.specs.Calls.{Takes, Collects}
use Rattle.link_ends.specs.Whole.{out_of, inward_of}
use Rattle.base_words.proofs.Prefixes.{IsPrefix-self}
use Rattle.link_ends.proofs.Lists.{slice_get-behind}

module _ {J T : Type 0} (link : Whole J T) where
  pub Takes-next : (order : Order J) → slice_get link.sent link.taken ≡ Some order
      → Takes (inward_of link) (inward_of (record link { taken = link.taken + 1 }))
      (Some record { name = record { from = link.from; to = link.to; number = link.base + (link.taken + 1) }; order = order })
  Takes-next order next =
      let number : link.base + (link.taken + 1) ≡ link.base + link.taken + 1 = omega arith in (refl, (IsPrefix-self link.sent, λ _. refl), cc, next)

  pub Takes-none : slice_get link.sent link.taken ≡ None → link.taken ≤ length link.sent → Takes (inward_of link) (inward_of link) None
  Takes-none none within = let behind : length link.sent ≤ link.taken = slice_get-behind link.sent link.taken none in (refl, (IsPrefix-self link.sent, λ _. refl), omega arith)

  pub Collects-next : (outcome : ℕ × Outcome J T) → slice_get link.given link.got ≡ Some outcome
      → Collects (out_of link) (out_of (record link { got = link.got + 1 })) (Some outcome)
  Collects-next outcome next = (refl, IsPrefix-self link.given, next)

  pub Collects-none : slice_get link.given link.got ≡ None → link.got ≤ length link.given → Collects (out_of link) (out_of link) None
  Collects-none none within = let behind : length link.given ≤ link.got = slice_get-behind link.given link.got none in (refl, IsPrefix-self link.given, omega arith)
