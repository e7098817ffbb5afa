use Rattle.judge_fronts.proofs.certain.order_told.Goals as goal

pub returns-in-Took-clause-right : goal.returns-in-Took-clause-right
returns-in-Took-clause-right c = rw c.in-Took.is c.is_delivery_told.ensures.right

pub returns-in-Took-clause-only : goal.returns-in-Took-clause-only
returns-in-Took-clause-only c = rw c.in-Took.is c.is_delivery_told.ensures.only

pub returns-in-Back-clause-right : goal.returns-in-Back-clause-right
returns-in-Back-clause-right c = rw c.in-Back.is c.is_delivery_told-in-Back.ensures.right

pub returns-in-Back-clause-only : goal.returns-in-Back-clause-only
returns-in-Back-clause-only c = rw c.in-Back.is c.is_delivery_told-in-Back.ensures.only

pub returns-in-Answered-clause-right : goal.returns-in-Answered-clause-right
returns-in-Answered-clause-right c = rw c.in-Answered.is c.is_delivery_told-in-Answered.ensures.right

pub returns-in-Answered-clause-only : goal.returns-in-Answered-clause-only
returns-in-Answered-clause-only c = rw c.in-Answered.is c.is_delivery_told-in-Answered.ensures.only

pub returns-in-Collected-clause-right : goal.returns-in-Collected-clause-right
returns-in-Collected-clause-right c = rw c.in-Collected.is c.is_collection_told.ensures.right

pub returns-in-Collected-clause-only : goal.returns-in-Collected-clause-only
returns-in-Collected-clause-only c = rw c.in-Collected.is c.is_collection_told.ensures.only
