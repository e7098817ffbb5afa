-- The kinds of handle: what each holds, and what is owned of one at its machine value. Nothing at null, else the box behind the address. Assumes `Logic`.
use Rattle.std.proofs.Common.{◌≡◌, ℕ, List, [], ◌∷◌, ◌++◌, refl, sym, subst}
use seplogic.Ra.Ura.{Ura}
use mir.Syntax.{impl, tnil, dnil}
use mir.Raw.{raw as bare}
use base.Shift.{Keyless}
use mir.Val.{Val, vptr, vnull, vstruct, of_list, has_ty, WT}
use base.Fraction.{full_share}
use base.Logic.{ent, guard, via, guard_i, never, fst∗, snd∗}
use base.Fml.{Fml, fsep, fex}
use types.Logic.{Logic, sem}
use types.Kit.{Item, Goal, Seq, Step, step, ‵, given, learn, use1, ◌$◌, move, drop, fsplit, fjoin, fpick, fpack, feq_i, feq_l}
use contract.Monad.{fact_use}
use denote.Exit.{under, hidden}
use denote.RattleType.{RattleType, Valss}
use denote.Builtin.{RawPtr}
use denote.Memory.{lone}
use denote.RawPtr.{Ptr, block_ptr, null_ptr, ptr_val, in_a_block, lies_at, Testable}
use denote.Steps.{nothing}
use denote.Param.{layout}
use denote.Param.Send.{IsSend, struct_send, owning_send, sendable}
use denote.Struct.Field.{RawPtr-field}
use denote.Struct.Struct.{within, exits_of}
use denote.Struct.Owning.{Owning, shape, row, fields, to}
use Rattle.core.specs.declared.option.Option.{Option}
use Rattle.core.specs.declared.option.Option.TheVariants.{None, Some}
use Rattle.core.proofs.alloc.Calls.{Al, handle_tells}
use Rattle.core.proofs.cell.Inside.{Good}
use Rattle.std_alloc.proofs.SendSync.{quiet, lies}
use Rattle.std_alloc.specs.Box.Ownership.{box_owns}
use Rattle.std_heap.specs.contracts.Global as global
use Rattle.std_heap.specs.declared.Global.{Global}
use Rattle.std_heap.proofs.Global.TheLaws as laws
use Rattle.std_heap.specs.contracts.GlobalAllocator.TheImpl as heap
use Rattle.std.proofs.Crossing.{frees}
use Rattle.std.proofs.alloc.Global.TheSendSync as global_crosses
use Rattle.std_heap.proofs.GlobalToken.{dealloc_token-Testable}
use mathlib.Core.Bool.{true, ◌&&◌}
use lib.Dec.{T, lit<}
use Rattle.std_alloc.proofs.ResultValues.{and_tt}
use Rattle.base_sealed.proofs.Values.{pair}
use Rattle.fairexec_c.specs.Handles.{held}
use Rattle.fairexec_c.specs.contracts.handle.Handle as handle
use Rattle.fairexec_c.specs.contracts.handle.SeatHandle as seat
use Rattle.fairexec_c.specs.contracts.hosted.Hosted as hosted
use Rattle.host_calls.specs.contracts.member.Member as member

abbrev pub Z : RattleType
Z = global.the_row

-- a handle's value: an address, the allocator, and the value of what stands there
pub record Holds (R : RattleType) : Type 0 where
  pub at : Ptr
  pub alloc : Global
  pub value : Option R.Denot

-- a struct of C that holds a value of this row
pub record Kind : Type 2 where
  pub of : RattleType
  pub struct : Owning
  pub shown : struct.D → Holds of
  pub made : Holds of → struct.D
  pub same : (it : Holds of) → shown (made it) ≡ it

-- the struct, written out as far as a handle's kind matters
abbrev pub spelled : Kind → Owning
spelled K = record K.struct {
  args = [];
  types = [];
  parts = RawPtr-field ∷ global.the_field ∷ [];
  as_values = λ d. ((K.shown d).at, ((K.shown d).alloc, tt));
  heap = λ d. held K.of (K.shown d).alloc (K.shown d).at (K.shown d).value;
  exit = λ k. hidden (under (λ d. ((K.shown d).at, ((K.shown d).alloc, tt))) (exits_of k (RawPtr ∷ Z ∷ [])));
}

-- its row
abbrev pub Row : Kind → RattleType
Row K = row (spelled K)

module _ (K : Kind) where
  abbrev pub boxed : Global → K.of.Denot → Ptr → Fml
  boxed alloc x p = box_owns (heap.ghosts.dealloc_token alloc) K.of p x

  abbrev handles : Al
  handles = record { row = Z; laws = laws.the_row_laws; g = heap.ghosts; d = impl [] tnil dnil; drops = impl [] tnil dnil }

  module _ {M : Type 1} {𝓤 : Ura M} (𝓛 : Logic 𝓤) where
    -- the address of a box may be compared with null
    tested : (alloc : Global) (x : K.of.Denot) (p : Ptr) → ent 𝓤 (sem 𝓛 (boxed alloc x p)) (guard 𝓤 (Testable p) (sem 𝓛 (boxed alloc x p)))
    tested alloc x p =
        fact_use 𝓤 (Testable p) (via 𝓤 _ (snd∗ 𝓤 (sem 𝓛 (lies_at K.of full_share p x)) (sem 𝓛 (heap.ghosts.dealloc_token alloc (bare (lone K.of.mir)) p)))
        (dealloc_token-Testable 𝓛 alloc (bare (lone K.of.mir)) p)) (guard_i 𝓤 (Testable p) (sem 𝓛 (boxed alloc x p)))

  module _ {M : Type 1} {𝓤 : Ura M} {𝓛 : Logic 𝓤} {E : Type 0} {Γ : List (Item 𝓤)} {G : Goal 𝓤 𝓛.H} where
    -- what is held at an address: nothing, and the address is null, or a box
    held_out : E → (alloc : Global) (p : Ptr) (value : Option K.of.Denot) → (value ≡ None → p ≡ null_ptr → Seq E 𝓛 Γ G)
        → ((b o : ℕ) (x : K.of.Denot) → value ≡ Some x → p ≡ block_ptr b o → Testable (block_ptr b o) → Seq E 𝓛 (‵ (boxed alloc x (block_ptr b o)) ∷ Γ) G)
        → Seq E 𝓛 (‵ (held K.of alloc p value) ∷ Γ) G
    held_out t alloc p None none some = fpick t (λ null. drop t $ none refl null)
    held_out t alloc p (Some x) none some =
        in_a_block t p (boxed alloc x) (fst∗ 𝓤 (never 𝓤) (sem 𝓛 (heap.ghosts.dealloc_token alloc (bare (lone K.of.mir)) null_ptr))) (λ b o lies.
        use1 𝓛 (given (Testable (block_ptr b o)) (‵ (boxed alloc x (block_ptr b o)))) (tested 𝓛 alloc x (block_ptr b o)) $ learn t (λ may. some b o x refl lies may))

  module _ {M : Type 1} {𝓤 : Ura M} {𝓛 : Logic 𝓤} {E : Type 0} {Γ : List (Item 𝓤)} {G : Goal 𝓤 𝓛.H} where
    -- a handle is taken apart
    pub handle_out : E → (d : (Row K).Denot) (vs : List Val)
        → ((h : Val) → (K.shown d).value ≡ None → vs ≡ pair vnull h ∷ [] → Good (layout Z) h → Seq E 𝓛 (‵ (Z.own_val (K.shown d).alloc (h ∷ [])) ∷ Γ) G)
        → ((b o : ℕ) (h : Val) (x : K.of.Denot) → (K.shown d).value ≡ Some x → vs ≡ pair (vptr b o) h ∷ [] → Good (layout Z) h → Testable (block_ptr b o)
        → Seq E 𝓛 (‵ (boxed (K.shown d).alloc x (block_ptr b o)) ∷ ‵ (Z.own_val (K.shown d).alloc (h ∷ [])) ∷ Γ) G)
        → Seq E 𝓛 (‵ ((Row K).own_val d vs) ∷ Γ) G
    handle_out t d vs none some =
        let it = K.shown d in
        fsplit t $ fpick t (λ fields. fsplit t $ feq_l t (λ whole. fsplit t $ feq_l t (λ at. fsplit t $ handle_tells handles t it.alloc fields.1.0 (λ h one fits.
        move t (1 ∷ []) $ drop t $ move t (1 ∷ []) $
        let with_address = subst (λ (ps : List Val). vs ≡ vstruct (of_list (ps ++ (fields.1.0 ++ []))) ∷ []) at whole in
        let with_handle = subst (λ (ws : List Val). vs ≡ vstruct (of_list (ptr_val it.at ∷ (ws ++ []))) ∷ []) one with_address in
        let are : (p : Ptr) → it.at ≡ p → vs ≡ pair (ptr_val p) h ∷ [] = λ p e. subst (λ (q : Ptr). vs ≡ vstruct (of_list (ptr_val q ∷ h ∷ [])) ∷ []) e with_handle in
        held_out t it.alloc it.at it.value (λ empty null. none h empty (are null_ptr null) fits)
        (λ b o x full lies may. some b o h x full (are (block_ptr b o) lies) fits may)))))

    -- and put together
    pub handle_in : E → (p : Ptr) (h : Val) (a : Z.Denot) (value : Option K.of.Denot)
        → Step E 𝓛 (‵ ((Row K).own_val (K.made (record { at = p; alloc = a; value = value })) (pair (ptr_val p) h ∷ [])) ∷ Γ) G (‵ (held K.of a p value) ∷ ‵ (Z.own_val a (h ∷ [])) ∷ Γ) G
    handle_in t p h a value =
        let v : List Val = pair (ptr_val p) h ∷ [] in
        let it : Holds K.of = record { at = p; alloc = a; value = value } in
        let Owned : Holds K.of → Fml = λ it. fsep (fex (Valss (RawPtr ∷ Z ∷ [])) (within (shape (spelled K)) (it.at, (((tt, tt), tt), tt)) v)) (held K.of it.alloc it.at it.value) in
        subst (λ (is : Holds K.of). Step E 𝓛 (‵ (Owned is) ∷ Γ) G (‵ (held K.of a p value) ∷ ‵ (Z.own_val a (h ∷ [])) ∷ Γ) G) (sym (K.same it)) (step (λ rest.
        nothing t $ move t (2 ∷ 0 ∷ []) $ fjoin t $ feq_i t (List Val) (ptr_val p ∷ []) (ptr_val p ∷ []) refl $ fjoin t $ feq_i t (List Val) v v refl $ fjoin t $
        fpack t (Valss (RawPtr ∷ global.the_field.row ∷ [])) (within (shape (spelled K)) (p, (((tt, tt), tt), tt)) v) (ptr_val p ∷ [], (h ∷ [], tt)) $ fjoin t $ rest))

-- the empty handle is a value of the type
pub null_good : (h : Val) → Good (layout Z) h → T (has_ty (layout Z) h && true) × WT (pair vnull h)
null_good h fits = (and_tt (has_ty (layout Z) h) fits.0, (record { fits = lit< tt }, (fits.1, tt)))

-- it may go to another thread if what it holds may: it names no thread
address : IsSend RawPtr
address = search sendable

module _ (K : Kind) (inside : IsSend K.of) where
  keyless : (alloc : Global) (at : Ptr) (value : Option K.of.Denot) → Keyless (held K.of alloc at value)
  keyless alloc at None = λ null. tt
  keyless alloc at (Some value) = (lies K.of inside at value, frees.frees alloc (bare (lone K.of.mir)) at)

  pub goes : IsSend (Row K)
  goes =
      owning_send (spelled K) (address, (global_crosses.the_field_send, tt)) (λ d. keyless (K.shown d).alloc (K.shown d).at (K.shown d).value)
      (λ k. quiet (to (spelled K)) (exits_of k (fields (spelled K))) ((struct_send (shape (spelled K)) (address, (global_crosses.the_field_send, tt))).leaving k))

-- a core that stands alone, and what belongs to a house
abbrev pub alone : Kind
alone = record {
  of = hosted.the_row;
  struct = handle.the_type;
  shown = λ d. record { at = d.at; alloc = d.alloc; value = d.value };
  made = λ it. record { at = it.at; alloc = it.alloc; value = it.value };
  same = λ it. refl;
}

abbrev pub housed : Kind
housed = record {
  of = member.the_row;
  struct = seat.the_type;
  shown = λ d. record { at = d.at; alloc = d.alloc; value = d.value };
  made = λ it. record { at = it.at; alloc = it.alloc; value = it.value };
  same = λ it. refl;
}
