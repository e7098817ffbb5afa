-- The greatest lead of two queues as a line of text.
use Rattle.std.specs.Prelude.{ℕ, ◌++◌, Option, Some, None, List, [], codes, decimal}
use Rattle.fairview_marks.specs.declared.standing.Lead.{Lead}

-- the core and the two queues
abbrev pub pair_text : ℕ → ℕ → ℕ → List ℕ
pair_text core first second = codes "core " ++ (decimal core ++ (codes " q" ++ (decimal first ++ (codes " q" ++ (decimal second ++ codes " ")))))

-- the turn, both virtual runtimes, and the greatest charge of each
abbrev pub numbers_text : Lead → List ℕ
numbers_text lead =
    codes "turn "
    ++ (decimal lead.turn
    ++ (codes " at "
    ++ (decimal lead.first
    ++ (codes " and "
    ++ (decimal lead.second ++ (codes " charges " ++ (decimal lead.first_most ++ (codes " and " ++ (decimal lead.second_most ++ codes "\n")))))))))

-- the line of a lead, if there is one
abbrev pub lead_line : ℕ → ℕ → ℕ → Option Lead → List ℕ
lead_line core first second None = []
lead_line core first second (Some lead) = pair_text core first second ++ numbers_text lead
