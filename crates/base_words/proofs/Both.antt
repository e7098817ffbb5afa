-- A fact of a journal's newest note, and the facts of the notes before it.

infixr 5 ◌&◌
pub ◌&◌ : {A B : Type 0} → A → B → A × B
◌&◌ newest before = (newest, before)
