-- The first words of a script's lines, and how many words such a line has.
use Rattle.std.specs.Prelude.{ℕ, ◌&&◌, Bool, true, false, List, codes, Option, Some, None, nat_le, ◌==◌, if◌then◌else◌}
use Rattle.std.specs.Str.{bytes_eq}
use Rattle.fairexec_script.specs.declared.keyword.Keyword.{Keyword}
use Rattle.fairexec_script.specs.declared.keyword.Keyword.TheVariants.{Queue, Submit, Create, Shares, Close, CloseCore, Wake, Deliver, Turn, Shut, Collect, Redeem, Detach}

-- what a line sends, by its first word
abbrev pub order_keyword : List ℕ → Option Keyword
order_keyword word =
    if bytes_eq word (codes "submit") then Some Submit
    else (if bytes_eq word (codes "create") then Some Create
    else (if bytes_eq word (codes "shares") then Some Shares
    else (if bytes_eq word (codes "close") then Some Close
    else (if bytes_eq word (codes "closecore") then Some CloseCore
    else (if bytes_eq word (codes "wake") then Some Wake
    else None)))))

-- what a line does that sends nothing, by its first word
abbrev pub step_keyword : List ℕ → Option Keyword
step_keyword word =
    if bytes_eq word (codes "deliver") then Some Deliver
    else (if bytes_eq word (codes "turn") then Some Turn
    else (if bytes_eq word (codes "shut") then Some Shut
    else (if bytes_eq word (codes "collect") then Some Collect
    else (if bytes_eq word (codes "redeem") then Some Redeem
    else (if bytes_eq word (codes "detach") then Some Detach
    else None)))))

-- the first of two that is there
abbrev pub either : Option Keyword → Option Keyword → Option Keyword
either None other = other
either (Some keyword) other = Some keyword

-- what a line after the first does, by its first word
abbrev pub keyword_of : List ℕ → Option Keyword
keyword_of word =
    if bytes_eq word (codes "queue") then Some Queue
    else either (order_keyword word) (step_keyword word)

-- how many words such a line may have, its first one counted; a job has 1 to 64 polls
abbrev pub takes : Keyword → ℕ → Bool
takes Queue count = count == 3
takes Submit count = nat_le 5 count && nat_le count 68
takes Create count = count == 4
takes Shares count = count == 5
takes Close count = count == 5
takes CloseCore count = count == 4
takes Wake count = count == 5
takes Deliver count = count == 3
takes Turn count = count == 2
takes Shut count = count == 3
takes Collect count = count == 3
takes Redeem count = count == 4
takes Detach count = count == 4

abbrev pub is_queue : Keyword → Bool
is_queue Queue = true
is_queue _ = false
