-- Every call on the thin reader by value that brings a number is one walk, shown here once for any callee: as `Taken`, and the number is passed on. What a
-- number owns is made anew where it is asked for.
use mathlib.Core.Path.{◌≡◌, refl}
use Prim.Native.Nat.{ℕ, ◌<◌, ◌^◌}
use mathlib.Core.List.{List, [], ◌∷◌}
use mathlib.Core.Bool.{true}
use lib.Ieee.Fits.{and_l}
use lib.Dec.{T as Holds}
use lib.ListN.{length}
use seplogic.Ra.Ura.{Ura}
use mir.Syntax.{Ty, Fn, Callee, named, erased, imm, w8, w64, ty_int, ty_ref, local, value_local, place, field, copy, rv_opd, assign, seq, call, return}
use mir.Val.{Val, WT, has_ty, vint}
use base.Logic.{SProp, ent, sep, emp, via, fst∗, snd∗, ex_e, id⊢}
use base.Fml.{Lft, Share, Fml, ftrue, flft}
use prog.Wp.{Calls, Loops, WpFn, Tables}
use types.Logic.{Logic, sem}
use contract.Lifetimes.{Lfts}
use contract.Monad.{fact}
use types.Kit.{‵, raw, ◌⊛◌, given, ⋆, some, later, ◌$◌, ◌∵◌, !, qed, by, move, drop, use1, use2, split, join, learn, pick, fsplit, fjoin, suffices, frame, await, done}
use types.Part.{whole, sub, look_in}
use types.Run.{look, init, forget, stop, fld, from, load, of_opd, and_then, no_more, assigns, land, returns, enter, alloc1, alloc0, params1, pass1, pass0, free1, free0}
use sound.WpLaws.{FmC, fm_of, WpFn-mono}
use denote.RattleType.{RattleType, owns}
use denote.Laws.{Is, shows}
use denote.Plain.{uint_vals, uint_Tells, uint_Makes}
use denote.Builtin.{u8, u64, SliceRefOf}
use denote.Signature.{Slot, plain, type_at, named_lft}
use denote.Slice.{slice_val, slice_ty, ShrSlice}
use denote.Steps.{owned, peeks, heard, nothing}
use denote.Struct.Declared.{Declared}
use denote.Struct.Laws as LL
use denote.Struct.Rest.{all_own, own_open}
use denote.Struct.Values.{Values}
use denote.Triple.Statement.{Contract, Triple}
use denote.Triple.Call.{calls_at}
use denote.Triple.Entry.{Vals, on_entry}
use denote.Triple.Spec.{Meets, triple_of}
use denote.Triple.Walked.{says, Stays, stay_none, walk_of, Goes-none, Walks, ends_at, walked, walk_Meets}
use denote.Triple.Clauses.{Ended, Clauses, ensured, lasts, closing}
use denote.Exit.{yes}
use Rattle.segment_reader.specs.declared.SegmentReader.{SegmentReader}
use Rattle.segment_reader.specs.declared.held.Reader.{Reader}
use Rattle.segment_reader.specs.contracts.SegmentReader as S
use Rattle.segment_reader.proofs.SegmentReader.TheLaws as S'
use Rattle.segment_reader.specs.contracts.held.Reader as T
use Rattle.segment_reader.proofs.held.Reader.TheLaws as T'

-- the struct's type, over the signature's lifetimes
abbrev B : Lfts 1 → RattleType
B κs = T.the_row (named_lft 1 0 tt κs)

-- the MIR of such a call
abbrev pub taken_asked : Callee → Ty → Fn
taken_asked callee ret =
    record {
      lifetimes = 1;
      ty_params = [];
      givens = 0;
      outlives = [];
      params = 2;
      locals = local ret value_local ∷ local (T'.mir (named 0)) value_local ∷ local (ty_int w64) value_local ∷ local S'.mir value_local ∷ local (slice_ty (ty_ref erased imm (ty_int w8))) value_local ∷ [];
      body = seq (assign (place 3 []) (rv_opd (copy (place 1 (field 1 ∷ []))))) (seq (assign (place 4 []) (rv_opd (copy (place 1 (field 0 ∷ []))))) (seq (call callee (copy (place 3 []) ∷ copy (place 4 []) ∷ copy (place 2 []) ∷ []) (place 0 [])) return));
    }

module _ (res : Slot 1) where
  -- the two signatures, with the result's type open
  abbrev pub Result : Lfts 1 → Type 0
  Result κs = (type_at res κs).Denot

  abbrev pub Promise : Type 1
  Promise = (κs : Lfts 1) → SegmentReader → List ℕ → (asked : ℕ) → Result κs → Type 0

  abbrev pub called : Ended
  called = record { signature = record { lifetimes = 1; outlives = []; params = plain (λ κs. S.the_row) ∷ SliceRefOf (0 ∷ []) tt (plain (λ κs. u8)) (λ κs. tt) ∷ plain (λ κs. u64) ∷ []; result = res }; kept = (yes, (yes, (yes, tt))) }

  abbrev pub calling : Ended
  calling = record { signature = record { lifetimes = 1; outlives = []; params = plain B ∷ plain (λ κs. u64) ∷ []; result = res }; kept = (yes, (yes, tt)) }

  abbrev stayed : Stays calling.signature.params calling.kept
  stayed = (stay_none B yes, (stay_none (λ _. u64) yes, tt))

  module _ (P : Promise) where
    -- the two contracts
    abbrev pub promised : {M : Type 1} (𝓤 : Ura M) → Clauses 𝓤 called
    promised 𝓤 κs a = record { ghost = Unit {0}; requires = λ g. emp 𝓤; ensures = λ g r e. fact 𝓤 (P κs a.0 a.1.0.now a.1.1.0 r) }

    abbrev pub passed_on : {M : Type 1} (𝓤 : Ura M) → Clauses 𝓤 calling
    passed_on 𝓤 κs a = record { ghost = Unit {0}; requires = λ g. emp 𝓤; ensures = λ g r e. fact 𝓤 (P κs a.0.state a.0.image.now a.1.0 r) }

    abbrev pub StepAt : {M : Type 1} {𝓤 : Ura M} (𝓛 : Logic 𝓤) → Contract 𝓤
    StepAt {𝓤 = 𝓤} 𝓛 = triple_of 𝓛 called.signature (closing 𝓛 called (promised 𝓤))

    module _ (ret : Ty) (callee : Callee) {M : Type 1} {𝓤 : Ura M} (𝓛 : Logic 𝓤) (typed : (κs : Lfts 1) (r : Result κs) (u : Val) → Is (type_at res κs) r (u ∷ []) → Holds (has_ty ret u) × WT u) where
      open 𝓛 use {H}

      module _ (κ : Lft) (q : Share) (d : Reader) (n : ℕ) (ok : n < 2 ^ 64) where
        abbrev R : RattleType
        R = type_at res (κ, tt)

        -- the struct's type and laws, and d's fields' values
        abbrev D : Declared
        D = T.the_type (named_lft 1 0 tt (κ, tt))

        abbrev L : LL.Laws D
        L = T'.the_laws (named_lft 1 0 tt (κ, tt))

        abbrev vd : Values D.parts
        vd = (d.image, (d.state, tt))

        -- the machine values of the struct, the slice and the state
        abbrev mach : Val
        mach = LL.val D L d

        abbrev v : Val
        v = slice_val d.image.ref_ptr (length d.image.now)

        abbrev w : Val
        w = LL.val S.the_type S'.the_laws d.state

        abbrev at : Vals calling.signature (κ, tt)
        at = (mach ∷ [], (vint w64 n ∷ [], tt))

        abbrev φ : R.Denot → Type 0
        φ r = P (κ, tt) d.state d.image.now n r

        abbrev Post : Val → SProp 𝓤
        Post = (walk_of 𝓛 calling stayed (passed_on 𝓤)).post (((κ, tt), (q, tt), tt, (d, (n, tt)), at), tt)

        abbrev Own : Fml
        Own = (B (κ, tt)).own_val d (mach ∷ [])

        -- what the callee is passed
        abbrev passed : Vals called.signature (κ, tt)
        passed = (w ∷ [], (v ∷ [], (vint w64 n ∷ [], tt)))

        abbrev to : (StepAt 𝓛).Ghost
        to = (((κ, tt), (q, tt), tt, (d.state, (d.image, (n, tt))), passed), tt)

        asked : ent 𝓤 (on_entry 𝓛 called.signature (κ, tt) (q, tt) (d.state, (d.image, (n, tt))) passed) ((StepAt 𝓛).pre to)
        asked = qed 𝓛 ((‵ (flft κ q) ⊛ ‵ ftrue) ∷ ‵ (owns (S.the_row ∷ ShrSlice (named 0) κ u8 ∷ u64 ∷ []) (d.state, (d.image, (n, tt))) passed) ∷ []) ∵ join ! $ frame ! $ done !

        -- what the struct owns gives what the callee asks, and is kept
        apart : ent 𝓤 (on_entry 𝓛 calling.signature (κ, tt) (q, tt) (d, (n, tt)) at) (sep 𝓤 ((StepAt 𝓛).pre to) (sem 𝓛 Own))
        apart =
            qed 𝓛 ((‵ (flft κ q) ⊛ ‵ ftrue) ∷ ‵ (owns (B (κ, tt) ∷ u64 ∷ []) (d, (n, tt)) at) ∷ []) ∵
            move ! (1 ∷ []) $ fsplit ! $ move ! (1 ∷ []) $ drop ! $ use1 𝓛 (‵ Own ⊛ ‵ Own) ((LL.copy D (T'.the_copy (named_lft 1 0 tt (κ, tt))) 𝓛).twice d (mach ∷ [])) $ split ! $
            use1 𝓛 (given (mach ∷ [] ≡ mach ∷ []) (‵ (all_own D.parts L vd))) (own_open 𝓛 D L vd mach) $ learn ! (λ _.
            -- [what the fields own; what the struct owns; the token]: the callee takes the state first
            fsplit ! $ move ! (1 ∷ []) $ fsplit ! $ move ! (1 ∷ []) $ owned ! u64 (Is u64) (uint_Makes 𝓛 w64) n _ (refl, ok) $ fjoin ! $ move ! (2 ∷ 0 ∷ []) $ fjoin ! $ move ! (1 ∷ 0 ∷ []) $ fjoin ! $
            move ! (2 ∷ 0 ∷ []) $ use2 𝓛 (raw ((StepAt 𝓛).pre to)) asked $ frame ! $ done !)

        -- of the callee's `ensured`, the clause alone: it has no `&mut`, so what is said of last values is dropped
        said : (r : R.Denot) → ent 𝓤 (ensured 𝓛 called (promised 𝓤) (κ, tt) (d.state, (d.image, (n, tt))) tt r) (fact 𝓤 (φ r))
        said r = ex_e 𝓤 _ (λ ws. snd∗ 𝓤 (sem 𝓛 (lasts called (κ, tt) (d.state, (d.image, (n, tt))) ws)) (fact 𝓤 (φ r)))

        exits : (r : R.Denot) (u : Val) → φ r → ent 𝓤 (⋆ 𝓛 (‵ (R.own_val r (u ∷ [])) ∷ (‵ (flft κ q) ⊛ ‵ ftrue) ∷ ‵ Own ∷ [])) (Post u)
        exits r u e =
            qed 𝓛 (‵ (R.own_val r (u ∷ [])) ∷ (‵ (flft κ q) ⊛ ‵ ftrue) ∷ ‵ Own ∷ []) ∵
            suffices ! _ (ends_at 𝓛 calling stayed (passed_on 𝓤) (((κ, tt), (q, tt), tt, (d, (n, tt)), at), tt) u r (tt, (tt, tt)) (tt, (tt, tt))) $ says ! e $
            move ! (1 ∷ []) $ frame ! $ nothing ! $ owned ! u64 (Is u64) (uint_Makes 𝓛 w64) n _ (refl, ok) $ fjoin ! $ move ! (2 ∷ 0 ∷ []) $ fjoin ! $ frame ! $ done !

        module _ (C : Calls 𝓤 H) (Λ : Loops 𝓤 H) (fm : FmC 𝓤 H 𝓛.laws C) (known : Triple 𝓤 (C callee) (StepAt 𝓛)) where
          walk : Holds (has_ty (T'.mir (named 0)) mach) × WT mach → ent 𝓤 (on_entry 𝓛 calling.signature (κ, tt) (q, tt) (d, (n, tt)) at) (WpFn 𝓤 H C Λ (taken_asked callee ret) (mach ∷ vint w64 n ∷ []) Post)
          walk wt =
              qed 𝓛 (raw (on_entry 𝓛 calling.signature (κ, tt) (q, tt) (d, (n, tt)) at) ∷ []) ∵ enter ! C Λ (taken_asked callee ret) (mach ∷ vint w64 n ∷ []) _ $
              alloc1 ! (λ l₀. alloc1 ! (λ l₁. alloc1 ! (λ l₂. alloc1 ! (λ l₃. alloc1 ! (λ l₄. alloc0 ! $ params1 ! $ pass1 ! (init ! 6 refl wt) $ pass1 ! (init ! 4 refl (tt, record { fits = ok })) $ pass0 ! $
              assigns ! (of_opd ! (load ! (from ! (fld ! refl (stop !))) (look_in ! 6 (sub ! 1 refl (whole !))))) (from ! (stop !)) (init ! 2 refl (and_l (has_ty S'.mir w) true wt.0, wt.1.1.0)) $
              assigns ! (of_opd ! (load ! (from ! (fld ! refl (stop !))) (look_in ! 6 (sub ! 0 refl (whole !))))) (from ! (stop !)) (init ! 0 refl (tt, wt.1.0)) $
              move ! (10 ∷ []) $ use1 𝓛 (raw ((StepAt 𝓛).pre to) ⊛ ‵ Own) apart $ split ! $
              calls_at ! fm (StepAt 𝓛) known to (and_then ! (load ! (from ! (stop !)) (look ! 4 refl)) (and_then ! (load ! (from ! (stop !)) (look ! 2 refl)) (and_then ! (load ! (from ! (stop !)) (look ! 6 refl)) (no_more !)))) (λ u.
              use1 𝓛 (later (some (λ (r : R.Denot). ((‵ (flft κ q) ⊛ ‵ ftrue) ⊛ ‵ (R.own_val r (u ∷ []))) ⊛ raw (ensured 𝓛 called (promised 𝓤) (κ, tt) (d.state, (d.image, (n, tt))) tt r)))) (id⊢ 𝓤 _) $ await ! tt $ pick ! (λ r.
              split ! $ move ! (1 ∷ []) $ use1 𝓛 (raw (fact 𝓤 (φ r))) (said r) $ heard ! (φ r) (λ e. split ! $ move ! (1 ∷ []) $
              -- [the result; the token; what the struct owns; _4; …; _3; …; _2; …; _1; …; room for _0; …]
              peeks ! R (Is R) (shows 𝓛 R) r (u ∷ []) (λ is.
              land ! (from ! (stop !)) (init ! 11 refl (typed (κ, tt) r u is)) $
              returns ! (look ! 11 refl) $ forget ! 3 refl $ forget ! 5 refl $ forget ! 7 refl $ forget ! 9 refl $ forget ! 11 refl $
              move ! (11 ∷ 12 ∷ []) $ free1 ! $ move ! (9 ∷ 10 ∷ []) $ free1 ! $ move ! (7 ∷ 8 ∷ []) $ free1 ! $ move ! (5 ∷ 6 ∷ []) $ free1 ! $ move ! (3 ∷ 4 ∷ []) $ free1 ! $ free0 ! $ by ! (exits r u e))))))))))

      asked-walks : (C : Calls 𝓤 H) (Λ : Loops 𝓤 H) → FmC 𝓤 H 𝓛.laws C → Triple 𝓤 (C callee) (StepAt 𝓛) → Walks 𝓛 calling stayed (WpFn 𝓤 H C Λ (taken_asked callee ret)) (passed_on 𝓤)
      asked-walks C Λ fm known = walked 𝓛 calling stayed (passed_on 𝓤) (WpFn 𝓤 H C Λ (taken_asked callee ret)) (λ κs. (LL.vals (T.the_type (named_lft 1 0 tt κs)) (T'.the_laws (named_lft 1 0 tt κs)), (uint_vals w64, tt))) (λ κs. (LL.tells (T.the_type (named_lft 1 0 tt κs)) (T'.the_laws (named_lft 1 0 tt κs)), (uint_Tells w64, tt)))
          (λ κs qs bounds a g are. via 𝓤 _ (fst∗ 𝓤 _ (emp 𝓤)) (walk κs.0 qs.0 a.0 a.1.0 are.1.0.1 C Λ fm known ((LL.lawful (T.the_type (named_lft 1 0 tt κs)) (T'.the_laws (named_lft 1 0 tt κs)) 𝓛).typed a.0 _ are.0).0))

      pub asked-meets : (𝓣 : Tables 𝓤 H) → Triple 𝓤 (𝓣.C callee) (StepAt 𝓛) → Meets 𝓛 calling.signature (WpFn 𝓤 H 𝓣.C 𝓣.Λ (taken_asked callee ret)) (closing 𝓛 calling (passed_on 𝓤))
      asked-meets 𝓣 known = walk_Meets 𝓛 calling stayed (Goes-none 𝓛 1 B yes (λ κs x f. refl), (Goes-none 𝓛 1 (λ _. u64) yes (λ κs x f. refl), tt)) (passed_on 𝓤) (WpFn 𝓤 H 𝓣.C 𝓣.Λ (taken_asked callee ret)) (WpFn-mono 𝓤 H 𝓛.laws 𝓣 (taken_asked callee ret)) (asked-walks 𝓣.C 𝓣.Λ (fm_of 𝓤 H 𝓛.laws 𝓣) known)
