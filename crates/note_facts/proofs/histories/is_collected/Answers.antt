use Rattle.note_facts.proofs.histories.is_collected.Goals as goal

pub returns-in-Redeemed-clause-right : goal.returns-in-Redeemed-clause-right
returns-in-Redeemed-clause-right c = λ before knows yes. rw c.in-Redeemed.is (c.is_collected.ensures.right before knows yes)

pub returns-in-Redeemed-clause-only : goal.returns-in-Redeemed-clause-only
returns-in-Redeemed-clause-only c = λ before knows. rw c.in-Redeemed.is (c.is_collected.ensures.only before knows)
