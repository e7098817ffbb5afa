-- The events that a script's lines tell: their actors exist, and their jobs have made no poll.
use Rattle.std.proofs.Common.{◌≡◌, ℕ, ◌-◌, ◌≤◌, ◌<◌, List, [], ◌∷◌, length, Some, Ok, refl, arith}
use Rattle.base_words.specs.declared.names.JobId.{JobId}
use Rattle.base_jobs.specs.declared.poll.Poll.{Poll}
use Rattle.base_jobs.specs.Scripts.{Script}
use Rattle.fairexec_script.specs.declared.line.Line.{Line}
use Rattle.text_words.specs.Numbers.{number_of}
use Rattle.text_words.specs.Words.{first, second, others}
use Rattle.text_words.specs.Fields.{core_field, actor_field}
use Rattle.fairexec_script.specs.Polls.{polls_field, job_field}
use Rattle.fairexec_script.specs.EventLines.{link_fields, gate_fields, name_fields, submit_line, create_line, shares_line, close_line, closecore_line, wake_line, deliver_line, turn_line, shut_line, collect_line, redeem_line, detach_line}
use Rattle.fairexec_script.specs.Limits.{MayFollow}
use Rattle.text_words.proofs.FieldLemmas.{made_ok, both_ok, within_ok}

core_ok : (cores : ℕ) (word : List ℕ) (core : ℕ) → 1 ≤ cores → core_field cores word ≡ Ok core → core < cores
core_ok cores word core some e = let within = within_ok 0 (cores - 1) (number_of word) core e in omega arith

actor_ok : (cores : ℕ) (word : List ℕ) (actor : ℕ) → actor_field cores word ≡ Ok actor → actor ≤ cores
actor_ok cores word actor e = (within_ok 0 cores (number_of word) actor e).1

link_ok : (cores : ℕ) (ws : List (List ℕ)) (link : ℕ × ℕ) → 1 ≤ cores → link_fields cores ws ≡ Ok link → (link.0 ≤ cores) × (link.1 < cores)
link_ok cores ws link some e =
    let b = both_ok _ _ _ e in
    (actor_ok cores (first ws) link.0 b.0, core_ok cores (second ws) link.1 some b.1)

gate_ok : (cores : ℕ) (ws : List (List ℕ)) (gate : ℕ × ℕ) → 1 ≤ cores → gate_fields cores ws ≡ Ok gate → (gate.0 < cores) × (gate.1 ≤ cores)
gate_ok cores ws gate some e =
    let b = both_ok _ _ _ e in
    (core_ok cores (first ws) gate.0 some b.0, actor_ok cores (second ws) gate.1 b.1)

name_ok : (cores : ℕ) (ws : List (List ℕ)) (name : JobId) → 1 ≤ cores → name_fields cores ws ≡ Ok name → (name.from ≤ cores) × (name.to < cores)
name_ok cores ws name some e =
    let m = made_ok _ _ _ e in
    let b = both_ok _ _ _ m.1 in
    let link = link_ok cores ws (m.0).0 some b.0 in
    rw m.2 (link.0, link.1)

some_polls : (cores : ℕ) (ws : List (List ℕ)) (polls : List Poll) → polls_field cores ws ≡ Ok polls → 1 ≤ length polls
some_polls cores [] polls e = cc
some_polls cores (word ∷ []) polls e = let m = made_ok _ _ _ e in rw m.2 (omega arith)
some_polls cores (word ∷ next ∷ rest) polls e = let m = made_ok _ _ _ e in rw m.2 (omega arith)

fresh_ok : (cores : ℕ) (ws : List (List ℕ)) (job : Script) → job_field cores ws ≡ Ok job → (job.polled ≡ 0) × (1 ≤ length job.polls)
fresh_ok cores ws job e = let m = made_ok _ _ _ e in rw m.2 (refl, some_polls cores ws m.0 m.1)

pub submit_line_ok : (size : ℕ × ℕ) (ws : List (List ℕ)) (line : Line) → 1 ≤ size.0 → submit_line size.0 ws ≡ Ok line → MayFollow (Some size) line
submit_line_ok size ws line some e =
    let m = made_ok _ _ _ e in
    let b = both_ok _ _ _ m.1 in
    let d = both_ok _ _ _ b.1 in
    let link = link_ok size.0 ws (m.0).0 some b.0 in
    let fresh = fresh_ok size.0 (others (others (others ws))) ((m.0).1).1 d.1 in
    rw m.2 (record { sender = link.0; core = link.1; some_polls = fresh.1; none_made = fresh.0 })

pub create_line_ok : (size : ℕ × ℕ) (ws : List (List ℕ)) (line : Line) → 1 ≤ size.0 → create_line size.0 ws ≡ Ok line → MayFollow (Some size) line
create_line_ok size ws line some e =
    let m = made_ok _ _ _ e in
    let b = both_ok _ _ _ m.1 in
    let link = link_ok size.0 ws (m.0).0 some b.0 in
    rw m.2 (record { sender = link.0; core = link.1; some_polls = omega arith; none_made = refl })

pub shares_line_ok : (size : ℕ × ℕ) (ws : List (List ℕ)) (line : Line) → 1 ≤ size.0 → shares_line size.0 ws ≡ Ok line → MayFollow (Some size) line
shares_line_ok size ws line some e =
    let m = made_ok _ _ _ e in
    let b = both_ok _ _ _ m.1 in
    let link = link_ok size.0 ws (m.0).0 some b.0 in
    rw m.2 (record { sender = link.0; core = link.1; some_polls = omega arith; none_made = refl })

pub close_line_ok : (size : ℕ × ℕ) (ws : List (List ℕ)) (line : Line) → 1 ≤ size.0 → close_line size.0 ws ≡ Ok line → MayFollow (Some size) line
close_line_ok size ws line some e =
    let m = made_ok _ _ _ e in
    let b = both_ok _ _ _ m.1 in
    let link = link_ok size.0 ws (m.0).0 some b.0 in
    rw m.2 (record { sender = link.0; core = link.1; some_polls = omega arith; none_made = refl })

pub closecore_line_ok : (size : ℕ × ℕ) (ws : List (List ℕ)) (line : Line) → 1 ≤ size.0 → closecore_line size.0 ws ≡ Ok line → MayFollow (Some size) line
closecore_line_ok size ws line some e =
    let m = made_ok _ _ _ e in
    let b = both_ok _ _ _ m.1 in
    let link = link_ok size.0 ws (m.0).0 some b.0 in
    rw m.2 (record { sender = link.0; core = link.1; some_polls = omega arith; none_made = refl })

pub wake_line_ok : (size : ℕ × ℕ) (ws : List (List ℕ)) (line : Line) → 1 ≤ size.0 → wake_line size.0 ws ≡ Ok line → MayFollow (Some size) line
wake_line_ok size ws line some e =
    let m = made_ok _ _ _ e in
    let b = both_ok _ _ _ m.1 in
    let link = link_ok size.0 ws (m.0).0 some b.0 in
    rw m.2 (record { sender = link.0; core = link.1; some_polls = omega arith; none_made = refl })

pub deliver_line_ok : (size : ℕ × ℕ) (ws : List (List ℕ)) (line : Line) → 1 ≤ size.0 → deliver_line size.0 ws ≡ Ok line → MayFollow (Some size) line
deliver_line_ok size ws line some e =
    let m = made_ok _ _ _ e in
    let gate = gate_ok size.0 ws m.0 some m.1 in
    rw m.2 (record { sender = gate.1; core = gate.0; some_polls = omega arith; none_made = refl })

pub turn_line_ok : (size : ℕ × ℕ) (ws : List (List ℕ)) (line : Line) → 1 ≤ size.0 → turn_line size.0 ws ≡ Ok line → MayFollow (Some size) line
turn_line_ok size ws line some e =
    let m = made_ok _ _ _ e in
    let core = core_ok size.0 (first ws) m.0 some m.1 in
    let sender : m.0 ≤ size.0 = omega arith in
    rw m.2 (record { sender = sender; core = core; some_polls = omega arith; none_made = refl })

pub shut_line_ok : (size : ℕ × ℕ) (ws : List (List ℕ)) (line : Line) → 1 ≤ size.0 → shut_line size.0 ws ≡ Ok line → MayFollow (Some size) line
shut_line_ok size ws line some e =
    let m = made_ok _ _ _ e in
    let gate = gate_ok size.0 ws m.0 some m.1 in
    rw m.2 (record { sender = gate.1; core = gate.0; some_polls = omega arith; none_made = refl })

pub collect_line_ok : (size : ℕ × ℕ) (ws : List (List ℕ)) (line : Line) → 1 ≤ size.0 → collect_line size.0 ws ≡ Ok line → MayFollow (Some size) line
collect_line_ok size ws line some e =
    let m = made_ok _ _ _ e in
    let link = link_ok size.0 ws m.0 some m.1 in
    rw m.2 (record { sender = link.0; core = link.1; some_polls = omega arith; none_made = refl })

pub redeem_line_ok : (size : ℕ × ℕ) (ws : List (List ℕ)) (line : Line) → 1 ≤ size.0 → redeem_line size.0 ws ≡ Ok line → MayFollow (Some size) line
redeem_line_ok size ws line some e =
    let m = made_ok _ _ _ e in
    let name = name_ok size.0 ws m.0 some m.1 in
    rw m.2 (record { sender = name.0; core = name.1; some_polls = omega arith; none_made = refl })

pub detach_line_ok : (size : ℕ × ℕ) (ws : List (List ℕ)) (line : Line) → 1 ≤ size.0 → detach_line size.0 ws ≡ Ok line → MayFollow (Some size) line
detach_line_ok size ws line some e =
    let m = made_ok _ _ _ e in
    let name = name_ok size.0 ws m.0 some m.1 in
    rw m.2 (record { sender = name.0; core = name.1; some_polls = omega arith; none_made = refl })
