-- Bytes that are put behind others, which stay there.
use Rattle.std.proofs.Common.{◌≡◌, Bool, true, false, List, [], ◌++◌, sym, ap, ◌∙◌, cond}
use Rattle.std.proofs.lemmas.List.{append-nil, append_assoc}
use Rattle.base_words.specs.Assembly.{IsPrefix}

-- either they are put, or nothing is
pub put_or_not : {A : Type 0} (puts : Bool) (old bytes new : List A) → new ≡ cond puts (old ++ bytes) old → IsPrefix old new
put_or_not true old bytes new is = (bytes, is)
put_or_not false old bytes new is = ([], is ∙ sym (append-nil old))

-- four one behind the other
pub four_put : {A : Type 0} (old a b c d one two three four : List A) → one ≡ old ++ a → two ≡ one ++ b → three ≡ two ++ c → four ≡ three ++ d →
    four ≡ old ++ (a ++ (b ++ (c ++ d)))
four_put old a b c d one two three four is_one is_two is_three is_four =
    is_four ∙ ap (λ front. front ++ d) (is_three ∙ ap (λ front. front ++ c) (is_two ∙ ap (λ front. front ++ b) is_one))
    ∙ append_assoc ((old ++ a) ++ b) c d ∙ append_assoc (old ++ a) b (c ++ d) ∙ append_assoc old a (b ++ (c ++ d))
