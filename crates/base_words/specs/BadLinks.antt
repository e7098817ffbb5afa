-- Journals that no order calls for: each may be lawful by itself, and may even be sound, and the links don't agree.
use Rattle.std.specs.Prelude.{ℕ, [], ◌∷◌}
use Rattle.base_words.specs.declared.note.Note.TheVariants as notes
use Rattle.base_words.specs.declared.note.OutcomeNote.TheVariants.{Finished}
use Rattle.base_words.specs.declared.order.Answer.TheVariants as answers
use Rattle.base_words.specs.declared.order.Mode.TheVariants.{Finish, Return}
use Rattle.base_words.specs.declared.order.Order.TheVariants.{Close, CloseCore}
use Rattle.base_words.specs.declared.order.Reason.TheVariants as why
use Rattle.base_words.specs.Assembly.{Assembly}
use Rattle.base_words.specs.BadJournals.{submission, with_journals, one_job, two_jobs, one_command, done}
use Rattle.base_words.specs.Joining.{LinksAgree}
use Rattle.base_words.specs.Journal.{Journal}

-- an order to create a queue is answered, and carried out, as if it set shares
abbrev pub answered_otherwise : Assembly ℕ
answered_otherwise = with_journals (notes.SharesSet 0 500 ∷ notes.Answered (submission 1) answers.SharesSet ∷ []) one_command

-- a job for an open queue goes back as if there were no such queue
abbrev pub open_queue_denied : Assembly ℕ
open_queue_denied = with_journals (notes.Back (submission 1) why.NoQueue ∷ []) one_job

-- a queue is created with other shares than the command gives it
abbrev pub created_with_other_shares : Assembly ℕ
created_with_other_shares = with_journals (notes.Created 1 600 ∷ notes.Answered (submission 1) (answers.Created 1) ∷ []) one_command

-- the outside actor sent a closing of queue 0
abbrev pub one_closing : Journal ℕ
one_closing = notes.Sent (submission 1) (Close 0 Finish) ∷ []

-- an open queue is said to be closed already
abbrev pub closed_before : Assembly ℕ
closed_before = with_journals (notes.Answered (submission 1) answers.AlreadyClosed ∷ []) one_closing

-- a queue is closed in another mode than the command says
abbrev pub closed_otherwise : Assembly ℕ
closed_otherwise = with_journals (notes.QueueClosed 0 Return ∷ notes.Answered (submission 1) answers.Closed ∷ []) one_closing

-- the core is closed in place of a queue
abbrev pub core_closed_instead : Assembly ℕ
core_closed_instead = with_journals (notes.CoreClosed Finish ∷ notes.Answered (submission 1) answers.Closed ∷ []) one_closing

-- a core that is closed answers a closing as if it were the first
abbrev pub closed_once_more : Assembly ℕ
closed_once_more = with_journals (notes.Answered (submission 1) answers.Closed ∷ notes.CoreClosed Finish ∷ []) (notes.Sent (submission 1) (CloseCore Finish) ∷ [])

-- a core that is closed in mode `Finish` answers a closing in mode `Return` as if it changed nothing
abbrev pub never_returning : Assembly ℕ
never_returning = with_journals (notes.Answered (submission 1) answers.AlreadyClosed ∷ notes.CoreClosed Finish ∷ []) (notes.Sent (submission 1) (CloseCore Return) ∷ [])

-- the second job of the outside actor is delivered first
abbrev pub delivered_second : Assembly ℕ
delivered_second = with_journals (notes.Took (submission 2) 0 ∷ []) two_jobs

-- a gate is shut at another count than that of the accepted orders
abbrev pub shut_at_another : Assembly ℕ
shut_at_another = with_journals (notes.Shut 1 0 ∷ notes.CoreClosed Finish ∷ []) one_job

-- another answer is collected than the one that was given
abbrev pub collected_another : Assembly ℕ
collected_another = with_journals done (notes.Collected (submission 1) (Finished 8) ∷ one_job)

-- the links of none of them agree
pub record LinksAreRefused : Type 0 where
  pub answer : LinksAgree answered_otherwise → ⊥
  pub refusal : LinksAgree open_queue_denied → ⊥
  pub effect : LinksAgree created_with_other_shares → ⊥
  pub closing : LinksAgree closed_before → ⊥
  pub mode : LinksAgree closed_otherwise → ⊥
  pub core : LinksAgree core_closed_instead → ⊥
  pub again : LinksAgree closed_once_more → ⊥
  pub stricter : LinksAgree never_returning → ⊥
  pub delivered : LinksAgree delivered_second → ⊥
  pub count : LinksAgree shut_at_another → ⊥
  pub outcome : LinksAgree collected_another → ⊥
