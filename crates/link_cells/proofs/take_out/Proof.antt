-- `take_out` opens the borrow of the slot that is out with the seat, reads it, and closes it at bytes that own nothing. Assumes `Logic`.
use Rattle.std.proofs.Common.{◌≡◌, ℕ, ◌+◌, ◌*◌, ◌^◌, ◌<◌, List, [], ◌∷◌, ◌++◌, sym, refl, ap, ◌∙◌, subst, arith, w64}
use Rattle.std.specs.Prelude.{Option, Some, None}
use mir.Syntax.{Ty, a_type, dcons, dnil}
use mir.Val.{Val, vint, vptr}
use mir.MapTy.{inst_fn}
use base.Fraction.{full_share}
use base.Stored.{Coded}
use base.Logic.{SProp, ent, emp, id⊢}
use base.Fml.{Lft, Fml, ftrue, fsep, fat, flft}
use prog.Wp.{WpFn}
use types.Kit.{◌∵◌, ‵, raw, ◌⊛◌, at_ret, ◌$◌, !, qed, by, move, keep, drop, use0, use1, split, split3, join, fsplit, fsplit3, fjoin, fjoin3, fpick, fpack, suffices, rewrite, feq_i}
use types.Run.{stop, fld, load, size_word, lit, of_opd, bin, first, blocks, exec, returns, enter}
use types.ByLocal.{alloc_all, pass_all, free_all, look_at, get, get_in, through, sets, sets_last, is, env}
use types.Part.{sub, whole as all_of_it, look_in}
use types.Tokens.{shr_bor-open, obor_close}
use types.Within.{tokens_halve}
use contract.Running.{tables}
use contract.Monad.{fact, fact_i}
use denote.Exit.{yes, no}
use denote.RattleType.{RattleType, owns}
use denote.Signature.{types_at, plain}
use denote.RawPtr.{Ptr, block_ptr, block_of, count_of, at_block, InBlock}
use denote.Steps.{nothing, heard, opens, closes}
use denote.Opens.{unhide}
use denote.Memory.{cell_at, lone}
use denote.Laws.{Typed}
use denote.Param.{param, layout, bounded}
use denote.Param.Laws.{param_laws}
use denote.Builtin.{RefOf, usize}
use denote.Struct.Members.{Member}
use denote.Struct.Declared.{shape}
use denote.Triple.Walked.{Stays, stay_dropped, stay_ref, walk_of, Goes-dropped, Goes-ref}
use Rattle.core.proofs.atomic.Steps.{tail}
use Rattle.core.proofs.cell.Inside.{round, Good-round, unwraps}
use Rattle.std.proofs.raw_atomic.Walks.{proved_at, leaves}
use Rattle.atomic_blocks.specs.Cells.{Me, me}
use Rattle.atomic_blocks.specs.Lent.{RowsId, age, mine, held, named as slot_named, stride, slot_at}
use Rattle.atomic_blocks.specs.contracts.rows.loose.Link as link
use Rattle.atomic_blocks.specs.contracts.rows.shared.Rows as web
use Rattle.atomic_blocks.specs.contracts.rows.shared.Seat as seat
use Rattle.atomic_blocks.proofs.RowMade.{link_val, link_told, link_good, uncapped}
use Rattle.link_cells.proofs.Places.{slot_is}
use Rattle.link_cells.specs.contracts.MaybeTaken as slot
use Rattle.link_cells.specs.contracts.MaybeTaken.TheInside as inside
use Rattle.link_cells.specs.contracts.take_out.{ended, clauses}
use Rattle.link_cells.specs.contracts.take_out.Key.{name as #self}
use Rattle.link_cells.proofs.take_out.Statement.{statement}
use Rattle.link_cells.proofs.take_out.Code as code

pub take_out_spec : {M : Type 1} → statement M
unfolding Rattle.atomic_blocks.specs.Lent.seal
take_out_spec 𝓤 𝓛 𝓜 𝓡 wired T U Q P Al L _ _ _ _ g d ga da dd _ _ _ =
    let H = 𝓛.H in let 𝓣 = tables 𝓤 H 𝓜 𝓡 𝓡.env in let B : RattleType = param 0 T in let W : RattleType = param 1 U in let X : RattleType = param 2 Q in let Y : RattleType = param 3 P in let Z : RattleType = param 4 Al in
    let R : RattleType = slot.the_row B in let D = shape (inside.the_type B) in let m : Member = record { row = B; ty = layout T } in let σ : Ty = lone R.mir in
    let Row : RattleType = web.the_row R W X Y Z g ga in let Sr : RattleType = seat.the_row R W Z ga in let Lk : RattleType = link.the_row R in let cv : Coded U.Denot = W.coded in let En = ended T U Q P Al g d ga da dd in
    let c = clauses T U Q P Al g d ga da dd 𝓛 𝓜.mem 𝓡.returns in let inst = bounded (a_type ∷ a_type ∷ a_type ∷ a_type ∷ a_type ∷ []) (T, (U, (Q, (P, (Al, tt))))) (dcons d (dcons da (dcons dd dnil))) in let fn = inst_fn inst code.function in
    let LB = (param_laws 0 T L).lawful 𝓛 in let self = RefOf (0 ∷ []) tt (plain (λ _. Row)) (λ _. tt) in
    let hs : Stays En.signature.params En.kept = (stay_dropped self yes, (stay_ref (1 ∷ []) tt (plain (λ _. Sr)), (stay_dropped (plain (λ _. Lk)) no, (stay_dropped (plain (λ _. usize)) yes, tt)))) in
    proved_at 𝓛 En hs c 𝓜 𝓡 (Goes-dropped 𝓛 7 self yes (λ κs x f. refl), (Goes-ref 𝓛 7 1 tt (plain (λ _. Sr)), (Goes-dropped 𝓛 7 (plain (λ _. Lk)) no (λ κs x f. refl), (Goes-dropped 𝓛 7 (plain (λ _. usize)) yes (λ κs x f. refl), tt))))
    (#self inst) fn (code.unfolded 𝓤 H 𝓜 𝓡 wired (T, (U, (Q, (P, (Al, tt))))) d da dd) (λ y are. let κs = y.0.0 in let qs = y.0.1 in let a = y.0.3 in let vss = y.0.4 in let Post : Val → SProp 𝓤 = (walk_of 𝓛 En hs c).post y in
    let κ : Lft = κs.0 in let t : Row.Denot = a.0.now in let z : RowsId = t.id in let α : Lft = age z in let b' : ℕ = a.1.0.ref_ptr.0 in let o' : ℕ = a.1.0.ref_ptr.1 in let h : Sr.Denot = a.1.0.now in let v : Me R.Denot U.Denot = h.me in
    let token : Ty → Ptr → Fml = ga.dealloc_token h.heap in let p : Ptr = a.1.1.0.ptr in let j : ℕ = a.1.1.1.0 in
    let others : Fml = fsep (flft κs.1.1.0 qs.1.1.0) (fsep (flft κs.1.1.1.0 qs.1.1.1.0) (fsep (flft κs.1.1.1.1.0 qs.1.1.1.1.0) (fsep (flft κs.1.1.1.1.1.0 qs.1.1.1.1.1.0) (fsep (flft κs.1.1.1.1.1.1.0 qs.1.1.1.1.1.1.0) ftrue)))) in
    let Asked : Type 0 = (h.rows ≡ z) × InBlock p × ((x : T.Denot) × (v.hand ≡ Some (p, j, Some x))) in
    let b : ℕ = block_of p in let e₀ : ℕ = j * stride R + count_of p in let e : ℕ = slot_at R e₀ in
    qed 𝓛 (((‵ (flft κ qs.0) ⊛ ‵ (flft κs.1.0 qs.1.0) ⊛ ‵ others) ⊛ ‵ (owns (types_at En.signature.params κs) a vss)) ∷ raw (fact 𝓤 _) ∷ raw (fact 𝓤 _) ∷ raw (fact 𝓤 _) ∷ raw (fact 𝓤 _) ∷ raw (fact 𝓤 _) ∷ raw (fact 𝓤 Asked) ∷ []) ∵
    keep ! (6 ∷ 0 ∷ []) $ heard ! Asked (λ asked. let x : T.Denot = asked.2.0 in split ! $ split3 ! $ move ! (3 ∷ []) $ fsplit3 ! $ fsplit ! $ move ! (2 ∷ []) $ fsplit3 ! $
    keep ! (4 ∷ 6 ∷ 1 ∷ 2 ∷ 7 ∷ 8 ∷ []) $ unhide ! $ fsplit ! $ drop ! $ fsplit ! $ move ! (1 ∷ []) $ drop ! $
    -- [the lifetime lasts; a token of κ; the seat's two parts; its token; the others]
    let p' : Ptr = block_ptr b (count_of p) in let us : List Val = vptr a.0.ref_ptr.0 a.0.ref_ptr.1 ∷ vptr b' o' ∷ link_val p' ∷ vint w64 j ∷ [] in
    let Run : List Val → SProp 𝓤 = λ ws. WpFn 𝓤 H 𝓣.C 𝓣.Λ fn ws Post in let linked : vss.1.1.0 ≡ link_val p' ∷ [] = link_told R a.1.1.0 vss.1.1.0 are.1.1.0 ∙ ap (λ (u : Ptr). link_val u ∷ []) (at_block p asked.1) in
    suffices ! (Run us) (subst (λ (ws : List Val). ent 𝓤 (Run us) (Run ws)) (sym (λ i. are.0.0 i ++ (are.1.0.0 i ++ (linked i ++ (are.1.1.1.0.0 i ++ []))))) (id⊢ 𝓤 (Run us))) $
    enter ! 𝓣.C 𝓣.Λ fn us Post $ alloc_all ! (λ l. pass_all ! refl ((tt, tt), ((tt, tt), (link_good p', ((tt, record { fits = are.1.1.1.0.1 }), tt)))) $ let Ev = env fn.locals l in
    shr_bor-open ! tt (tokens_halve 𝓛 α) (λ s. move ! (2 ∷ 3 ∷ 4 ∷ []) $ opens ! tt Sr b' o' (λ ts. move ! (1 ∷ []) $ fsplit ! $
    rewrite ! 1 (λ (x : RowsId). ‵ (mine R token cv.code x h.id v)) asked.0 refl $ move ! (1 ∷ []) $ fsplit3 ! $ rewrite ! 1 (λ (u : Option (Ptr × ℕ × R.Denot)). ‵ (held R α u)) asked.2.1 refl $ move ! (1 ∷ []) $ fsplit ! $ fpick ! (λ low. drop ! $
    fpick ! (λ δ. fsplit ! $ let small : j * stride R < 2 ^ 64 = omega arith in
    first ! $ blocks ! $ sets ! (is ! (bin ! (get ! refl) (size_word !) (record { fits = subst (λ (j : ℕ). j < 2 ^ 64) (sym (uncapped j (stride R) small)) small })) (ap (vint w64) (uncapped j (stride R) small))) refl (tt, record { fits = small }) $
    sets ! (bin ! (get_in ! (fld ! refl (stop !)) (sub ! 0 refl (all_of_it !))) (get ! refl) tt) refl (tt, tt) $ sets ! (of_opd ! (get ! refl)) refl (tt, tt) $
    sets ! (is ! (bin ! (get ! refl) (lit ! tt) tt) (ap (vptr b) (slot_is σ (layout T) e₀))) refl (tt, tt) $ sets ! (of_opd ! (get ! refl)) refl (tt, tt) $
    move ! (0 ∷ 1 ∷ 10 ∷ []) $ opens ! tt R {h = Some x} b e (λ vs. move ! (1 ∷ []) $ fsplit ! $ drop ! $ unwraps m ! LB D.name D.types x vs (λ w good laid.
    rewrite ! 1 (λ (ws : List Val). ‵ (cell_at full_share R.mir ws b e)) laid refl $ move ! (1 ∷ []) $ use1 𝓛 (‵ (fat full_share σ b e (round w))) (𝓛.laws.raw_at full_share σ b e (round w)) $
    sets_last ! (of_opd ! (load ! (through ! refl (stop !)) (look_in ! 0 (sub ! 0 refl (all_of_it !))))) refl good $ exec ! 𝓣.C 𝓣.Λ Ev (tail fn.body) (at_ret Ev Post) $ sets ! (of_opd ! (get ! refl)) refl good $
    use1 𝓛 (‵ (cell_at full_share R.mir (round w ∷ []) b e)) (𝓛.laws.at_raw full_share σ b e (round w)) $
    nothing ! $ nothing ! $ fpack ! (Typed R.mir (round w ∷ [])) (λ _. ftrue) (Good-round D.name (layout T) w good, tt) $ fjoin ! $
    -- [nothing is owned; the place; the value; open; obs; auth; the view; the spare; the fields; the seat's place; open; obs; auth; the open token; the others]
    move ! (1 ∷ 0 ∷ 3 ∷ 4 ∷ 5 ∷ []) $ closes ! tt R None (round w ∷ []) b e $ fjoin ! $ fpack ! ℕ (slot_named R α None b e) δ $ nothing ! $ fpack ! (j * stride R < 2 ^ 63) (λ _. ftrue) low $ fjoin ! $
    move ! (3 ∷ 0 ∷ 4 ∷ []) $ fjoin3 ! $ move ! (3 ∷ 0 ∷ []) $ fjoin ! $ move ! (3 ∷ 0 ∷ 4 ∷ 5 ∷ 6 ∷ []) $
    let v' : Me R.Denot U.Denot = me v.view (Some (p, j, None)) v.spare in let h' : Sr.Denot = record { marker = h.marker; rows = z; heap = h.heap; id = h.id; me = v' } in
    let Same : Type 0 = (z ≡ h.rows) × (h.heap ≡ h.heap) × (h.id ≡ h.id) in let Told : Type 0 = (v.hand ≡ Some (p, j, Some x)) × (v' ≡ v') in
    closes ! tt Sr h' ts b' o' $ feq_i ! (List Val) vss.1.0 (vptr b' o' ∷ []) are.1.0.0 $ fjoin3 ! $ nothing ! $ nothing ! $ fjoin ! $ nothing ! $ fjoin ! $ move ! (1 ∷ 0 ∷ []) $ fjoin ! $ nothing ! $ fjoin ! $
    move ! (4 ∷ 2 ∷ []) $ obor_close ! tt $ drop ! $ move ! (2 ∷ 4 ∷ []) $ join ! $ move ! (1 ∷ 0 ∷ []) $ join ! $
    use0 𝓛 (raw (fact 𝓤 Told)) (fact_i 𝓤 Told (emp 𝓤) (asked.2.1, refl)) $ use0 𝓛 (raw (fact 𝓤 Same)) (fact_i 𝓤 Same (emp 𝓤) (sym asked.0, refl, refl)) $ join ! $
    returns ! (look_at ! 0 refl) $ free_all ! refl $ keep ! (1 ∷ 2 ∷ 3 ∷ 0 ∷ []) $ by ! (leaves 𝓛 En hs c y w x (tt, (h', (tt, (tt, tt)))) (tt, (tt, (tt, (tt, tt))))))))))))))
