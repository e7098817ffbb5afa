-- Publications that are refused: left out, too early, once too often, stale, or on another board.
use Rattle.run_worker.proofs.Names.{ap, arith, CantShow, inl, inr, IsShownWhole, Journal, length, refl, ShownView, Shows, ShowsAgain, ShowsEnd, ℕ, [], ◌∷◌, ◌≤◌}
use Rattle.std.proofs.Common.{Bool, true, false}
use Rattle.run_worker.proofs.SmallWorkers.{SmallWorker, board_of, linked_of, one_note, small_worker}

-- a worker with one note, that counted so many rounds since it published
abbrev counting : ℕ → ShownView ℕ → SmallWorker
counting since shown = record (small_worker (linked_of one_note [] 9) [] 4) { shown = shown; since = since }

-- so few notes and publications can be published
can_show : (count : ℕ) → count ≤ 1 → CantShow one_note (board_of [] count) → ⊥
can_show count few (inl many) = omega (arith, few, many)
can_show count few (inr many) = omega (arith, many)

-- the numbers of the whole journal were published
whole_journal : Shows one_note (board_of [] 0) (board_of one_note 1)
whole_journal = inl refl

-- what was published is older than the journal
stale_numbers : Shows one_note (board_of [] 0) (board_of [] 1) → ⊥
stale_numbers (inl did) = let same = ap (λ (shown : ShownView ℕ). length shown.notes) did in omega (arith, same)
stale_numbers (inr cant) = can_show 0 (omega arith) cant.0

-- nothing was published
nothing_published : Shows one_note (board_of [] 0) (board_of [] 0) → ⊥
nothing_published (inl did) = let same = ap (λ (shown : ShownView ℕ). shown.count) did in omega (arith, same)
nothing_published (inr cant) = can_show 0 (omega arith) cant.0

-- it was published on another board
on_another_board : Shows one_note (board_of [] 0) (record (board_of one_note 1) { board = 8 ∷ [] }) → ⊥
on_another_board (inl did) = let same = ap (λ (shown : ShownView ℕ). shown.board) did in cc
on_another_board (inr cant) = can_show 0 (omega arith) cant.0

-- the board of a worker with one note that shows nothing yet
behind_its_journal : IsShownWhole (linked_of one_note [] 9).recorded (board_of [] 0) → ⊥
behind_its_journal shown = elim shown.whole [
  | inl same ↦ let none = ap (λ (notes : Journal ℕ). length notes) same in omega (arith, none)
  | inr cant ↦ can_show 0 (omega arith) cant
]

-- 3 rounds were counted, and the numbers are published
published_too_early : ShowsAgain (counting 3 (board_of [] 0)) (counting 0 (board_of one_note 1)) → ⊥
published_too_early (inl did) = omega (arith, did.0)
published_too_early (inr none) = let same = ap (λ (worker : SmallWorker). worker.since) none.1 in omega (arith, same)

-- 1024 rounds were counted, and nothing is published
published_too_late : ShowsAgain (counting 1024 (board_of [] 0)) (counting 1025 (board_of [] 0)) → ⊥
published_too_late (inl did) = let same = ap (λ (worker : SmallWorker). worker.since) did.1.rest in omega (arith, same)
published_too_late (inr none) = omega (arith, none.0)

-- a round in which something was done isn't counted
round_not_counted : ShowsAgain (counting 3 (board_of [] 0)) (counting 3 (board_of [] 0)) → ⊥
round_not_counted (inl did) = omega (arith, did.0)
round_not_counted (inr none) = let same = ap (λ (worker : SmallWorker). worker.since) none.1 in omega (arith, same)

-- behind 1024 rounds the numbers of an older journal are published
published_stale : ShowsAgain (counting 1024 (board_of [] 0)) (counting 0 (board_of [] 1)) → ⊥
published_stale (inl did) = stale_numbers did.1.shows
published_stale (inr none) = omega (arith, none.0)

-- a worker with one note, at its end or not
abbrev at_end : Bool → ShownView ℕ → SmallWorker
at_end ending shown = record (small_worker (linked_of one_note [] 9) [] 4) { ending = ending; shown = shown }

-- it came to its end, and nothing is published
end_unpublished : ShowsEnd false (at_end true (board_of [] 0)) (at_end true (board_of [] 0)) → ⊥
end_unpublished (inl (_, _, did)) = nothing_published did.shows
end_unpublished (inr (late, _)) = late (refl, refl)

-- it isn't at its end, and the numbers are published
published_before_its_end : ShowsEnd false (at_end false (board_of [] 0)) (at_end false (board_of one_note 1)) → ⊥
published_before_its_end (inl (_, ends, _)) = cc
published_before_its_end (inr (_, is)) = let same = ap (λ (worker : SmallWorker). worker.shown.count) is in omega (arith, same)

-- it was at its end before, and the numbers are published again
published_twice : ShowsEnd true (at_end true (board_of [] 0)) (at_end true (board_of one_note 1)) → ⊥
published_twice (inl (was, _, _)) = cc
published_twice (inr (_, is)) = let same = ap (λ (worker : SmallWorker). worker.shown.count) is in omega (arith, same)
