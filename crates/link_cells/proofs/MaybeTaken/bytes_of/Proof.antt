-- `bytes_of` owns nothing. Assumes `Logic`.
use Rattle.std.proofs.Common.{◌≡◌, T, List, [], ◌∷◌, ◌++◌, sym, refl, subst}
use mir.Syntax.{a_type, dcons, dnil}
use mir.Val.{Val, has_ty, WT}
use mir.MapTy.{inst_fn}
use base.Logic.{SProp, ent, emp, id⊢}
use base.Fml.{ftrue}
use prog.Wp.{WpFn}
use types.Kit.{‵, raw, ◌⊛◌, ◌$◌, ◌∵◌, !, qed, by, move, keep, split, fsplit, fjoin, fpack, use0, suffices}
use types.Run.{of_opd, no_more, and_then, returns, enter}
use types.ByLocal.{alloc_all, pass_all, free_all, look_at, get, sets}
use types.Part.{agg}
use contract.Running.{tables}
use contract.Monad.{fact, fact_i}
use denote.Exit.{no}
use denote.RattleType.{RattleType, owns}
use denote.Signature.{types_at, plain}
use denote.Steps.{nothing}
use denote.Laws.{Typed}
use denote.Param.{param, layout, bounded}
use denote.Param.Laws.{param_laws}
use denote.Struct.Declared.{shape}
use denote.Triple.Entry.{alive}
use denote.Triple.Walked.{Stays, stay_dropped, walk_of, Goes-dropped}
use Rattle.std.specs.Prelude.{Option, None}
use Rattle.core.proofs.cell.Inside.{one, round, Good-round}
use Rattle.std.proofs.raw_atomic.Walks.{proved_at, leaves}
use Rattle.link_cells.specs.contracts.MaybeTaken.TheInside as inside
use Rattle.link_cells.specs.contracts.MaybeTaken.bytes_of.{ended, clauses}
use Rattle.link_cells.specs.contracts.MaybeTaken.bytes_of.Key.{name as #self}
use Rattle.link_cells.proofs.MaybeTaken.bytes_of.Statement.{statement}
use Rattle.link_cells.proofs.MaybeTaken.bytes_of.Code as code

pub bytes_of_spec : {M : Type 1} → statement M
bytes_of_spec 𝓤 𝓛 𝓜 𝓡 wired X L dd _ =
    let H = 𝓛.H in let 𝓣 = tables 𝓤 H 𝓜 𝓡 𝓡.env in let R : RattleType = param 0 X in let F : RattleType = inside.the_row R in let D = shape (inside.the_type R) in
    let En = ended X dd in let c = clauses X dd 𝓛 𝓜.mem 𝓡.returns in let inst = bounded (a_type ∷ []) (X, tt) (dcons dd dnil) in let fn = inst_fn inst code.function in
    let item = plain (λ _. R) in let hs : Stays En.signature.params En.kept = (stay_dropped item no, tt) in
    proved_at 𝓛 En hs c 𝓜 𝓡 (Goes-dropped 𝓛 1 item no (λ κs x f. refl), tt) (#self inst) fn (code.unfolded 𝓤 H 𝓜 𝓡 wired (X, tt) dd) (λ z are.
    let x : X.Denot = z.0.3.0 in let got = one (layout X) z.0.4.0 (((param_laws 0 X L).lawful 𝓛).typed x z.0.4.0 are.0) in let v : Val = got.0 in
    let gone : Option X.Denot = None in let good : T (has_ty (layout X) v) × WT v = got.2 in let rounded = Good-round D.name (layout X) v good in
    let Post : Val → SProp 𝓤 = (walk_of 𝓛 En hs c).post z in let Run : List Val → SProp 𝓤 = λ ws. WpFn 𝓤 H 𝓣.C 𝓣.Λ fn ws Post in
    qed 𝓛 ((raw (alive 𝓛 En.signature z.0.0 z.0.1) ⊛ ‵ (owns (types_at En.signature.params z.0.0) z.0.3 z.0.4)) ∷ raw ((c z.0.0 z.0.3).requires z.1) ∷ []) ∵
    keep ! (0 ∷ []) $ split ! $ move ! (1 ∷ []) $ fsplit ! $ keep ! (2 ∷ []) $
    nothing ! $ nothing ! $ fpack ! (Typed F.mir (round v ∷ [])) (λ _. ftrue) (rounded, tt) $ fjoin ! $
    suffices ! (Run (v ∷ [])) (subst (λ (ws : List Val). ent 𝓤 (Run (v ∷ [])) (Run ws)) (sym (λ i. got.1 i ++ [])) (id⊢ 𝓤 (Run (v ∷ [])))) $
    enter ! 𝓣.C 𝓣.Λ fn (v ∷ []) Post $ alloc_all ! (λ l. pass_all ! refl (good, tt) $
    sets ! (of_opd ! (get ! refl)) refl good $ sets ! (agg ! (and_then ! (get ! refl) (no_more !))) refl rounded $
    use0 𝓛 (raw (fact 𝓤 (gone ≡ gone))) (fact_i 𝓤 (gone ≡ gone) (emp 𝓤) refl) $ nothing ! $ nothing ! $ fjoin ! $
    returns ! (look_at ! 0 refl) $ free_all ! refl $ keep ! (3 ∷ 0 ∷ 2 ∷ 1 ∷ []) $ by ! (leaves 𝓛 En hs c z (round v) gone (tt, tt) (tt, tt))))
