use Rattle.link_board.proofs.Names.{add_assoc, ap, arith, div-add-mod, mod-eq_of_lt, mod_self, mul-add, mul-add-mod_self_left, mul-lt, mul-one, mul-zero, sym, ℕ, ◌%◌, ◌*◌, ◌+◌, ◌/◌, ◌<◌, ◌∙◌, ◌≡◌}
use Rattle.std.proofs.Math.Nat.{mod-lt}
use Rattle.link_board.proofs.Windows.{same_turn}
use Rattle.link_board.proofs.spacing.next_place.Goals as goal

-- The remainder goes up by one, or is 0 again.
next_mod : (n i : ℕ) → (i + 1) % n ≡ (i % n + 1) % n
next_mod n i = ap (λ (k : ℕ). (k + 1) % n) (sym (div-add-mod i n)) ∙ (ap (λ (k : ℕ). k % n) (add_assoc (n * (i / n)) (i % n) 1) ∙ mul-add-mod_self_left n (i / n) (i % n + 1))

-- The place of the next turn.
next_turn : (gap turn : ℕ) → (gap + 1) * turn + gap + 1 ≡ (gap + 1) * (turn + 1)
next_turn gap turn = add_assoc ((gap + 1) * turn) gap 1 ∙ sym (mul-add (gap + 1) turn 1 ∙ ap (λ (k : ℕ). (gap + 1) * turn + k) (mul-one (gap + 1)))

low : (gap count index : ℕ) → gap < 4 → 0 < count → count < 65536 → (gap + 1) * (index % count) < 327680
low gap count index near some few = mul-lt (gap + 1) (index % count) 5 65536 (omega arith) (let below : index % count < count = mod-lt index some in omega arith)

pub overflow_add-next : goal.overflow_add-next
overflow_add-next g c = let board = c.args.board.now in omega (arith, c.requires.place, low board.gap board.lines.key.capacity c.args.index board.spaced.1 c.requires.some c.requires.few)

pub overflow_add-next-2 : goal.overflow_add-next-2
overflow_add-next-2 g c = let board = c.args.board.now in omega (arith, c.requires.place, board.spaced.1, low board.gap board.lines.key.capacity c.args.index board.spaced.1 c.requires.some c.requires.few)

pub returns-then-next-board : goal.returns-then-next-board
returns-then-next-board g c =
    let board = c.args.board.now in let count : ℕ = board.lines.key.capacity in let turn : ℕ = c.args.index % count in
    let last : turn + 1 ≡ count = same_turn board.gap (turn + 1) count
    (sym (next_turn board.gap turn) ∙ (ap (λ (k : ℕ). k + board.gap + 1) (sym c.requires.place) ∙ (c.if-next-board.true ∙ board.spaced.2 c.requires.some))) in
    let none : (c.args.index + 1) % count ≡ 0 = next_mod count c.args.index ∙ (ap (λ (k : ℕ). k % count) last ∙ mod_self count) in
    sym (ap (λ (k : ℕ). (board.gap + 1) * k) none ∙ mul-zero (board.gap + 1))

pub returns-else-next-board : goal.returns-else-next-board
returns-else-next-board g c =
    let board = c.args.board.now in let count : ℕ = board.lines.key.capacity in let turn : ℕ = c.args.index % count in
    let is : c.args.place + board.gap + 1 ≡ (board.gap + 1) * (turn + 1) = ap (λ (k : ℕ). k + board.gap + 1) c.requires.place ∙ next_turn board.gap turn in
    let other : turn + 1 ≡ count → ⊥ = (λ e. c.if-next-board.false (is ∙ (ap (λ (k : ℕ). (board.gap + 1) * k) e ∙ sym (board.spaced.2 c.requires.some)))) in
    let below : turn < count = mod-lt c.args.index c.requires.some in
    let small : turn + 1 < count = omega arith in
    is ∙ ap (λ (k : ℕ). (board.gap + 1) * k) (sym (mod-eq_of_lt small) ∙ sym (next_mod count c.args.index))
