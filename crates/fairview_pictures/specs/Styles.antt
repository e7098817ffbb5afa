-- The colours and fonts of a picture, in light and in dark.
use Rattle.std.specs.Prelude.{ℕ, ◌++◌, List, codes}

-- the style of all pictures, and their ground; no byte of it comes from a journal
unfoldable pub style : List ℕ
style =
    codes "<style>.ground{fill:#fff}text{fill:#222;font:24px sans-serif}.axis{fill:#555}.end{text-anchor:end}.lane{fill:#eceef1}.a{fill:#3b75af}.b{fill:#e08214}.c{fill:#2f8f4e}.d{fill:#b2463f}.e{fill:#7a5ea8}.f{fill:#8c6239}.g{fill:#c65b9e}"
    ++ (codes ".h{fill:#5f6a72}.i{fill:#8f8a1f}.j{fill:#1f93a3}.n{fill:#9aa0a6}.back{fill:#d01c1c}.close{fill:#111}.gate{fill:#0a7d5a}@media(prefers-color-scheme:dark){.ground{fill:#16181d}text{fill:#e4e6ea}.axis{fill:#a5abb3}.lane{fill:#252930}"
    ++ (codes ".a{fill:#6ea8e0}.b{fill:#f0a24a}.c{fill:#5fc27f}.d{fill:#e2776f}.e{fill:#ab91d9}.f{fill:#c1946a}.g{fill:#e58fc4}.h{fill:#98a4ad}.i{fill:#c9c452}.j{fill:#55c3d2}.n{fill:#6b7178}.back{fill:#ff5c5c}.close{fill:#fff}"
    ++ (codes ".gate{fill:#4fd6a8}}</style>\n"
    ++ codes "<rect class=\"ground\" width=\"100%\" height=\"100%\"/>")))

-- what the marks of a lane mean
unfoldable pub legend : List ℕ
legend =
    codes "<rect class=\"back\" x=\"300\" y=\"24\" width=\"24\" height=\"8\"/><text class=\"axis\" x=\"336\" y=\"36\">handed back</text><rect class=\"close\" x=\"560\" y=\"24\" width=\"24\" height=\"8\"/>"
    ++ codes "<text class=\"axis\" x=\"596\" y=\"36\">closed</text><rect class=\"gate\" x=\"820\" y=\"24\" width=\"24\" height=\"8\"/><text class=\"axis\" x=\"856\" y=\"36\">gate shut</text>\n"
