-- The calls on handles that the checker doesn't follow, for each kind of handle. Assumes `Logic`.
use Rattle.std.proofs.Common.{◌≡◌, ℕ, List, [], ◌∷◌, ◌++◌, map, refl, ap, lit<}
use seplogic.Ra.Ura.{Ura}
use mir.Syntax.{Fn, Body, Callee, Ty, ty_ptr, ty_bool, w8, w64, int, Opd, Rv, local, value_local, place, field, copy, rv_opd, op2, ptr_eq, aggregate, assign, seq, cond, return}
use mir.Val.{Val, vptr, vnull, vcons, vnil}
use base.Logic.{SProp, ent, sep, emp}
use base.Fml.{ftrue, fsep}
use prog.Model.{Model}
use prog.Wp.{WpFn, Closed}
use types.Logic.{Logic, sem}
use types.Kit.{Sq, prop, regoal, ‵, raw, at_ret, ◌⊛◌, ◌$◌, ◌∵◌, !, qed, by, move, keep, split, fsplit, fjoin, fpack, use0, use1, rewrite}
use types.Run.{stop, fld, lit, bin, first, branches, exec, of_opd, no_more, and_then, returns, enter}
use types.ByLocal.{alloc_all, pass_all, free_all, look_at, get, get_in, sets, sets_last, env}
use types.Match.{live}
use types.Part.{agg, sub, whole}
use contract.Monad.{fact, fact_i}
use contract.Running.{Running, MachineTables, tables}
use denote.Exit.{yes}
use denote.Laws.{Is}
use denote.Memory.{lone}
use denote.Param.{layout}
use denote.RattleType.{RattleType, owns}
use denote.Signature.{types_at, plain}
use denote.RawPtr.{block_ptr, null_ptr, tests_null}
use denote.Steps.{nothing}
use denote.Triple.Clauses.{Ended, Clauses, Lasts, closing}
use denote.Triple.Entry.{alive}
use denote.Triple.Spec.{Meets}
use denote.Triple.Walked.{AllGo, Stays, stay_dropped, walk_of, Goes-dropped}
use Rattle.core.specs.declared.option.Option.TheVariants.{None, Some}
use Rattle.core.specs.contracts.option.Option as option
use Rattle.core.proofs.alloc.Calls.{Goes-blank}
use Rattle.core.proofs.alloc.Shapes.{after}
use Rattle.core.proofs.cell.Inside.{Good, one}
use Rattle.core.proofs.option.Made.{Some-of, none_of}
use Rattle.std.proofs.raw_atomic.Walks.{proved_at, leaves}
use Rattle.std_alloc.proofs.ResultValues.{and_tt}
use Rattle.std_heap.specs.contracts.GlobalAllocator.TheImpl as heap
use Rattle.std_heap.proofs.Global.TheLaws as laws
use Rattle.base_sealed.proofs.Values.{pair, pair_good, loose_in, loose_out, Loose}
use Rattle.fairexec_c.specs.Handles.{inside}
use Rattle.fairexec_c.proofs.Handling.{Kind, Holds, Row, Z, handle_in, handle_out, null_good}

-- a function of one parameter, by the types of its locals and its body
abbrev function : List Ty → Body → Fn
function types body = record { lifetimes = 0; outlives = []; ty_params = []; givens = 0; params = 1; locals = map (λ τ. local τ value_local) types; body = body }

-- the value of one local, or the part of it that is a field
abbrev value : ℕ → Opd
value number = copy (place number [])

abbrev part : ℕ → ℕ → Opd
part number at = copy (place number (field at ∷ []))

abbrev set : ℕ → Rv → Body
set number to = assign (place number []) to

-- a function that takes one value and gives one, by what holds of both
module _ (P R : RattleType) {M : Type 1} {𝓤 : Ura M} (𝓛 : Logic 𝓤) (told : P.Denot → R.Denot → Type 0) where
  abbrev ended : Ended
  ended = record { signature = record { lifetimes = 0; outlives = []; params = plain (λ _. P) ∷ []; result = plain (λ _. R) }; kept = (yes, tt) }

  abbrev clauses : Clauses 𝓤 ended
  clauses κs args = record { ghost = Unit {0}; requires = λ g. emp 𝓤; ensures = λ g res end. fact 𝓤 (told args.0 res) }

  abbrev stays : Stays ended.signature.params ended.kept
  stays = (stay_dropped (plain (λ _. P)) yes, tt)

  abbrev Enters : Type 0
  Enters = (walk_of 𝓛 ended stays clauses).Ghost

  abbrev post : Enters → Val → SProp 𝓤
  post = (walk_of 𝓛 ended stays clauses).post

  -- at its end it owns what it gives
  ends : (z : Enters) → Lasts ended z.0.0 z.0.3 → (v : Val) (r : R.Denot) → told z.0.3.0 r → ent 𝓤 (sep 𝓤 (alive 𝓛 ended.signature z.0.0 z.0.1) (sep 𝓤 (sem 𝓛 (fsep ftrue ftrue)) (sem 𝓛 (R.own_val r (v ∷ []))))) (post z v)
  ends z ws v r is = qed 𝓛 (raw (alive 𝓛 ended.signature z.0.0 z.0.1) ∷ ‵ (fsep ftrue ftrue) ∷ ‵ (R.own_val r (v ∷ [])) ∷ []) ∵
      use0 𝓛 (raw (fact 𝓤 (told z.0.3.0 r))) (fact_i 𝓤 (told z.0.3.0 r) (emp 𝓤) is) $ keep ! (1 ∷ 2 ∷ 3 ∷ 0 ∷ []) $ by ! (leaves 𝓛 ended stays clauses z v r ws (tt, tt))

  module _ (fn : Fn) (𝓜 : Model 𝓤 𝓛.H) (𝓡 : Running 𝓤 𝓛.H 𝓜) where
    abbrev 𝓣 : MachineTables 𝓤 𝓛.H 𝓜
    𝓣 = tables 𝓤 𝓛.H 𝓜 𝓡 𝓡.env

    abbrev Runs : Enters → List Val → SProp 𝓤
    Runs z ws = WpFn 𝓤 𝓛.H 𝓣.C 𝓣.Λ fn ws (post z)

    abbrev Meeting : Type 2
    Meeting = (key : Callee) → Closed 𝓤 𝓛.H 𝓣.C 𝓣.Λ key fn → Meets 𝓛 ended.signature (𝓣.C key) (closing 𝓛 ended clauses)

    -- from a walk on
    met : AllGo 𝓛 0 ended.signature.params ended.kept stays → ((z : Enters) → Is P z.0.3.0 z.0.4.0 → Sq 𝓛 (‵ (P.own_val z.0.3.0 z.0.4.0) ∷ ‵ ftrue ∷ raw (alive 𝓛 ended.signature z.0.0 z.0.1) ∷ raw (emp 𝓤) ∷ []) (prop (Runs z (z.0.4.0 ++ [])))) → Meeting
    met goes walk key closed = proved_at 𝓛 ended stays clauses 𝓜 𝓡 goes key fn closed (λ z are.
        qed 𝓛 ((raw (alive 𝓛 ended.signature z.0.0 z.0.1) ⊛ ‵ (owns (types_at ended.signature.params z.0.0) z.0.3 z.0.4)) ∷ raw (emp 𝓤) ∷ []) ∵
        split ! $ move ! (1 ∷ []) $ fsplit ! $ walk z are.0)

module _ (K : Kind) where
  abbrev loose : RattleType
  loose = Loose K.of Z laws.the_row_laws heap.ghosts

  abbrev found : RattleType
  found = option.the_row loose

  abbrev Seals : loose.Denot → K.struct.D → Type 0
  Seals it res = (K.shown res).value ≡ Some it.value

  abbrev Empties : Z.Denot → K.struct.D → Type 0
  Empties alloc res = (K.shown res).value ≡ None

  abbrev Unseals : K.struct.D → found.Denot → Type 0
  Unseals it res = (K.shown it).value ≡ inside (λ out. out.value) res

  abbrev seals : Fn
  seals = function (lone (Row K).mir ∷ lone loose.mir ∷ ty_ptr ∷ lone Z.mir ∷ ty_ptr ∷ [])
      (seq (set 2 (rv_opd (part 1 0))) (seq (set 3 (rv_opd (part 1 1))) (seq (set 4 (rv_opd (value 2))) (seq (set 0 (aggregate (value 4 ∷ value 3 ∷ []))) return))))

  abbrev empties : Fn
  empties = function (lone (Row K).mir ∷ lone Z.mir ∷ []) (seq (set 0 (aggregate (int w64 0 ∷ value 1 ∷ []))) return)

  abbrev unseals : Fn
  unseals = function (lone found.mir ∷ lone (Row K).mir ∷ ty_ptr ∷ lone Z.mir ∷ ty_bool ∷ lone found.mir ∷ ty_ptr ∷ lone loose.mir ∷ [])
      (seq (set 2 (rv_opd (part 1 0))) (seq (set 3 (rv_opd (part 1 1))) (seq (set 4 (op2 ptr_eq (value 2) (int w64 0))) (seq (cond (value 4) (set 5 (aggregate (int w8 0 ∷ [])))
      (seq (set 6 (rv_opd (value 2))) (seq (set 7 (aggregate (value 6 ∷ value 3 ∷ []))) (set 5 (aggregate (int w8 1 ∷ value 7 ∷ [])))))) (seq (set 0 (rv_opd (value 5))) return)))))

  module _ {M : Type 1} (𝓤 : Ura M) (𝓛 : Logic 𝓤) (𝓜 : Model 𝓤 𝓛.H) (𝓡 : Running 𝓤 𝓛.H 𝓜) where
    -- the type of what stands at an address is forgotten
    pub sealed : Meeting loose (Row K) 𝓛 Seals seals 𝓜 𝓡
    sealed = met loose (Row K) 𝓛 Seals seals 𝓜 𝓡 (Goes-blank 𝓛 0 (plain (λ _. loose)) yes (λ κs x f. tt), tt) (λ z is.
        let v = z.0.3.0 in
        loose_out K.of Z laws.the_row_laws heap.ghosts ! v z.0.4.0 (λ b o h lies ws fits.
        let w : Val = pair (vptr b o) h in
        let typed = pair_good K.of Z laws.the_row_laws heap.ghosts b o h fits in
        let d : Holds K.of = record { at = block_ptr b o; alloc = v.alloc; value = Some v.value } in
        regoal ! (λ us. prop (Runs loose (Row K) 𝓛 Seals seals 𝓜 𝓡 z (us ++ []))) ws refl $
        enter ! _ _ _ _ _ $ alloc_all ! (λ l. pass_all ! refl (typed, tt) $
        sets ! (of_opd ! (get_in ! (fld ! refl (stop !)) (sub ! 0 refl (whole !)))) refl (tt, tt) $
        sets ! (of_opd ! (get_in ! (fld ! refl (stop !)) (sub ! 1 refl (whole !)))) refl fits $
        sets ! (of_opd ! (get ! refl)) refl (tt, tt) $
        sets ! (agg ! (and_then ! (get ! refl) (and_then ! (get ! refl) (no_more !)))) refl typed $
        handle_in K ! (block_ptr b o) h v.alloc (Some v.value) $ nothing ! $ nothing ! $ fjoin ! $ returns ! (look_at ! 0 refl) $ free_all ! refl $
        keep ! (3 ∷ 0 ∷ 1 ∷ []) $ by ! (ends loose (Row K) 𝓛 Seals z (tt, tt) w (K.made d) (ap (λ it. it.value) (K.same d))))))

    -- null is put beside the allocator
    pub emptied : Meeting Z (Row K) 𝓛 Empties empties 𝓜 𝓡
    emptied = met Z (Row K) 𝓛 Empties empties 𝓜 𝓡 (Goes-dropped 𝓛 0 (plain (λ _. Z)) yes (λ κs x f. refl), tt) (λ z is.
        let a = z.0.3.0 in
        let h = one (layout Z) z.0.4.0 ((laws.the_row_laws.lawful 𝓛).typed a z.0.4.0 is) in
        let d : Holds K.of = record { at = null_ptr; alloc = a; value = None } in
        rewrite ! 0 (λ (us : List Val). ‵ (Z.own_val a us)) h.1 refl $
        regoal ! (λ us. prop (Runs Z (Row K) 𝓛 Empties empties 𝓜 𝓡 z (us ++ []))) h.1 refl $
        enter ! _ _ _ _ _ $ alloc_all ! (λ l. pass_all ! refl (h.2, tt) $
        sets ! (agg ! (and_then ! (lit ! tt) (and_then ! (get ! refl) (no_more !)))) refl (null_good h.0 h.2) $
        nothing ! $ fpack ! (null_ptr ≡ null_ptr) (λ _. ftrue) refl $
        handle_in K ! null_ptr h.0 a None $ nothing ! $ nothing ! $ fjoin ! $ returns ! (look_at ! 0 refl) $ free_all ! refl $
        keep ! (3 ∷ 0 ∷ 1 ∷ []) $ by ! (ends Z (Row K) 𝓛 Empties z (tt, tt) (pair vnull h.0) (K.made d) (ap (λ it. it.value) (K.same d)))))

    -- the address is compared with null, and the type of what stands there told again
    pub unsealed : Meeting (Row K) found 𝓛 Unseals unseals 𝓜 𝓡
    unsealed = met (Row K) found 𝓛 Unseals unseals 𝓜 𝓡 (Goes-blank 𝓛 0 (plain (λ _. Row K)) yes (λ κs x f. tt), tt) (λ z is.
        let v = K.shown z.0.3.0 in
        let 𝓣 : MachineTables 𝓤 𝓛.H 𝓜 = tables 𝓤 𝓛.H 𝓜 𝓡 𝓡.env in
        handle_out K ! z.0.3.0 z.0.4.0
        (λ h empty ws fits.
        let w : Val = pair vnull h in
        regoal ! (λ us. prop (Runs (Row K) found 𝓛 Unseals unseals 𝓜 𝓡 z (us ++ []))) ws refl $
        enter ! _ _ _ _ _ $ alloc_all ! (λ l. pass_all ! refl (null_good h fits, tt) $
        sets ! (of_opd ! (get_in ! (fld ! refl (stop !)) (sub ! 0 refl (whole !)))) refl (tt, record { fits = lit< tt }) $
        sets ! (of_opd ! (get_in ! (fld ! refl (stop !)) (sub ! 1 refl (whole !)))) refl fits $
        sets ! (bin ! (get ! refl) (lit ! tt) tt) refl (tt, tt) $ first ! $ branches ! (get ! refl)
        (λ _. sets_last ! (agg ! (and_then ! (lit ! tt) (no_more !))) refl (tt, (record { fits = lit< tt }, tt)) $
        exec ! 𝓣.C 𝓣.Λ (env unseals.locals l) (after 4 unseals.body) (at_ret (env unseals.locals l) (post (Row K) found 𝓛 Unseals z)) $ sets ! (of_opd ! (get ! refl)) refl (tt, (record { fits = lit< tt }, tt)) $
        use0 𝓛 (‵ (found.own_val None (live 0 vnil ∷ []))) (none_of 𝓛 loose) $ nothing ! $ nothing ! $ fjoin ! $ returns ! (look_at ! 0 refl) $ free_all ! refl $
        keep ! (3 ∷ 0 ∷ 1 ∷ []) $ by ! (ends (Row K) found 𝓛 Unseals z (tt, tt) (live 0 vnil) None empty))
        (λ wrong. absurd wrong)))
        (λ b o h x full ws fits may.
        let w : Val = pair (vptr b o) h in
        let typed = pair_good K.of Z laws.the_row_laws heap.ghosts b o h fits in
        let made : Val = live 1 (vcons w vnil) in
        let d : loose.Denot = record { at = block_ptr b o; alloc = v.alloc; value = x } in
        let good : Good (layout found) made = (and_tt _ typed.0, (record { fits = lit< tt }, (typed.1, tt))) in
        regoal ! (λ us. prop (Runs (Row K) found 𝓛 Unseals unseals 𝓜 𝓡 z (us ++ []))) ws refl $
        enter ! _ _ _ _ _ $ alloc_all ! (λ l. pass_all ! refl (typed, tt) $
        sets ! (of_opd ! (get_in ! (fld ! refl (stop !)) (sub ! 0 refl (whole !)))) refl (tt, tt) $
        sets ! (of_opd ! (get_in ! (fld ! refl (stop !)) (sub ! 1 refl (whole !)))) refl fits $
        sets ! (bin ! (get ! refl) (lit ! tt) (tests_null (block_ptr b o) may)) refl (tt, tt) $ first ! $ branches ! (get ! refl) (λ wrong. absurd wrong) (λ _.
        sets ! (of_opd ! (get ! refl)) refl (tt, tt) $
        sets ! (agg ! (and_then ! (get ! refl) (and_then ! (get ! refl) (no_more !)))) refl typed $
        sets_last ! (agg ! (and_then ! (lit ! tt) (and_then ! (get ! refl) (no_more !)))) refl good $
        exec ! 𝓣.C 𝓣.Λ (env unseals.locals l) (after 4 unseals.body) (at_ret (env unseals.locals l) (post (Row K) found 𝓛 Unseals z)) $ sets ! (of_opd ! (get ! refl)) refl good $
        loose_in K.of Z laws.the_row_laws heap.ghosts ! b o h v.alloc x $
        use1 𝓛 (‵ (found.own_val (Some d) (made ∷ []))) (Some-of 𝓛 loose d w) $ nothing ! $ nothing ! $ fjoin ! $ returns ! (look_at ! 0 refl) $ free_all ! refl $
        keep ! (3 ∷ 0 ∷ 1 ∷ []) $ by ! (ends (Row K) found 𝓛 Unseals z (tt, tt) made (Some d) full)))))
