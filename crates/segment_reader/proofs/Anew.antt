-- A function of an image and a state that puts a reader together and makes one call on it by value is one walk, shown here once for any such call: `Reader::new`,
-- then the callee on what it answers. All that is known of the two is that each meets its contract. Slice and state are Copy: what they own is had twice, once
-- for `new` and once for the exit.
use mathlib.Core.Path.{refl, subst}
use Prim.Native.Nat.{ℕ}
use mathlib.Core.List.{List, [], ◌∷◌}
use lib.Dec.{T as Holds}
use lib.ListN.{length}
use seplogic.Ra.Ura.{Ura}
use mir.Syntax.{Ty, Fn, Callee, named, erased, imm, w8, ty_int, ty_ref, local, value_local, place, copy, seq, call, return}
use mir.Val.{Val, WT, has_ty}
use base.Logic.{SProp, ent, sep, emp, via, fst∗, snd∗, ex_e, id⊢}
use base.Fml.{Lft, Share, Fml, ftrue, flft}
use prog.Memory.{Memory}
use prog.Routine.{Routine}
use prog.Wp.{Calls, Loops, WpFn, Tables}
use types.Logic.{Logic, sem}
use contract.Lifetimes.{Lfts}
use contract.Monad.{Fun, fact}
use types.Kit.{‵, raw, ◌⊛◌, ⋆, some, later, ◌$◌, ◌∵◌, !, qed, by, move, use1, use2, split, join, pick, fsplit, fjoin, suffices, frame, await, done}
use types.Run.{look, init, forget, stop, from, load, and_then, no_more, land, returns, enter, alloc1, alloc0, params1, pass1, pass0, free1, free0}
use sound.WpLaws.{FmC, fm_of, WpFn-mono}
use denote.RattleType.{RattleType, owns}
use denote.Laws.{Is, shows}
use denote.Builtin.{u8, SliceRefOf}
use denote.Ref.{Bor, NamedLft}
use denote.Plain.{uint_row_laws}
use denote.Signature.{Slot, plain, type_at, named_lft}
use denote.Slice.{slice_val, slice_ty, ShrSlice, shr_slice_vals, shr_slice_Tells, shr_slice_Lawful, shr_slice_copy}
use denote.Steps.{peeks, heard, nothing}
use denote.Struct.Laws as LL
use denote.Triple.Statement.{Contract, Triple}
use denote.Triple.Call.{calls_at}
use denote.Triple.Entry.{Vals, on_entry}
use denote.Triple.Spec.{Meets, triple_of}
use denote.Triple.Walked.{says, Stays, stay_none, stay_none_slice, walk_of, Goes-none, Goes-none_slice, Walks, ends_at, walked, walk_Meets}
use denote.Triple.Clauses.{Ended, Clauses, ensured, lasts, closing}
use denote.Exit.{yes}
use Rattle.segment_reader.specs.declared.SegmentReader.{SegmentReader}
use Rattle.segment_reader.specs.Held.{HeldNewAllows}
use Rattle.segment_reader.specs.declared.held.Reader.{Reader}
use Rattle.segment_reader.specs.contracts.SegmentReader as S
use Rattle.segment_reader.proofs.SegmentReader.TheLaws as S'
use Rattle.segment_reader.specs.contracts.held.Reader as T
use Rattle.segment_reader.proofs.held.Reader.TheLaws as T'
use Rattle.segment_reader.specs.contracts.held.Reader.new as nw
use Rattle.segment_reader.proofs.held.Reader.new.Symbol as nw-def
use Rattle.segment_reader.proofs.Taken.{Result, Promise, calling, passed_on}

-- the MIR of such a function
abbrev pub anew : Callee → Ty → Fn
anew callee ret =
    record {
      lifetimes = 1;
      ty_params = [];
      givens = 0;
      outlives = [];
      params = 2;
      locals = local ret value_local ∷ local (slice_ty (ty_ref (named 0) imm (ty_int w8))) value_local ∷ local S'.mir value_local ∷ local (T'.mir erased) value_local ∷ [];
      body = seq (call nw-def.name (copy (place 1 []) ∷ copy (place 2 []) ∷ []) (place 3 [])) (seq (call callee (copy (place 3 []) ∷ []) (place 0 [])) return);
    }

-- the contract of `new`
abbrev pub News : {M : Type 1} {𝓤 : Ura M} (𝓛 : Logic 𝓤) (mem : Memory → SProp 𝓤) (run : Routine → Fun 𝓤) → Contract 𝓤
News 𝓛 mem run = triple_of 𝓛 nw.signature (nw.spec 𝓛 mem run)

module _ (res : Slot 1) where
  abbrev pub asking : Ended
  asking = record { signature = record { lifetimes = 1; outlives = []; params = SliceRefOf (0 ∷ []) tt (plain (λ κs. u8)) (λ κs. tt) ∷ plain (λ κs. S.the_row) ∷ []; result = res }; kept = (yes, (yes, tt)) }

  abbrev stayed : Stays asking.signature.params asking.kept
  stayed = (stay_none_slice (0 ∷ []) tt (plain (λ _. u8)) yes, (stay_none (λ _. S.the_row) yes, tt))

  module _ (P : Promise res) where
    abbrev pub promised : {M : Type 1} (𝓤 : Ura M) → Clauses 𝓤 asking
    promised 𝓤 κs a = record { ghost = Unit {0}; requires = λ g. emp 𝓤; ensures = λ g r e. fact 𝓤 (P κs a.1.0 a.0.now r) }

    -- the contract of the call on the reader
    abbrev pub HeldAt : {M : Type 1} {𝓤 : Ura M} (𝓛 : Logic 𝓤) → Contract 𝓤
    HeldAt {𝓤 = 𝓤} 𝓛 = triple_of 𝓛 (calling res).signature (closing 𝓛 (calling res) (passed_on res P 𝓤))

    module _ (ret : Ty) (callee : Callee) {M : Type 1} {𝓤 : Ura M} (𝓛 : Logic 𝓤) (mem : Memory → SProp 𝓤) (run : Routine → Fun 𝓤) (typed : (κs : Lfts 1) (r : Result res κs) (u : Val) → Is (type_at res κs) r (u ∷ []) → Holds (has_ty ret u) × WT u) where
      open 𝓛 use {H}

      module _ (κ : Lft) (q : Share) (s : Bor (List ℕ)) (st : SegmentReader) where
        abbrev R : RattleType
        R = type_at res (κ, tt)

        abbrev α : NamedLft
        α = named_lft 1 0 tt (κ, tt)

        -- the lifetime as a local of a body has it
        abbrev αᵉ : NamedLft
        αᵉ = record { mir = erased; lft = κ }

        abbrev B : RattleType
        B = T.the_row α

        -- the machine values of the slice and the state
        abbrev v : Val
        v = slice_val s.ref_ptr (length s.now)

        abbrev w : Val
        w = LL.val S.the_type S'.the_laws st

        abbrev at : Vals asking.signature (κ, tt)
        at = (v ∷ [], (w ∷ [], tt))

        abbrev φ : R.Denot → Type 0
        φ r = P (κ, tt) st s.now r

        abbrev Post : Val → SProp 𝓤
        Post = (walk_of 𝓛 asking stayed (promised 𝓤)).post (((κ, tt), (q, tt), tt, (s, (st, tt)), at), tt)

        abbrev Own : Fml
        Own = (ShrSlice (named 0) κ u8).own_val s (v ∷ [])

        abbrev OwnS : Fml
        OwnS = (S.the_row).own_val st (w ∷ [])

        -- each call: what it is passed, what it asks, and what is known of its result
        abbrev to-new : (News 𝓛 mem run).Ghost
        to-new = (((κ, tt), (q, tt), tt, (s, (st, tt)), at), tt)

        goes-new : ent 𝓤 (on_entry 𝓛 asking.signature (κ, tt) (q, tt) (s, (st, tt)) at) (sep 𝓤 ((News 𝓛 mem run).pre to-new) (sep 𝓤 (sem 𝓛 OwnS) (sem 𝓛 Own)))
        goes-new =
            qed 𝓛 ((‵ (flft κ q) ⊛ ‵ ftrue) ∷ ‵ (owns (ShrSlice (named 0) κ u8 ∷ S.the_row ∷ []) (s, (st, tt)) at) ∷ []) ∵
            move ! (1 ∷ []) $ fsplit ! $ use1 𝓛 (‵ Own ⊛ ‵ Own) ((shr_slice_copy 𝓛 (named 0) κ u8 (uint_row_laws w8)).twice s (v ∷ [])) $ split ! $
            -- [image; image; what the state and nothing own; the token]
            move ! (2 ∷ []) $ fsplit ! $ use1 𝓛 (‵ OwnS ⊛ ‵ OwnS) ((LL.copy S.the_type S'.the_copy 𝓛).twice st (w ∷ [])) $ split ! $
            -- [state; state; nothing; image; image; the token]
            move ! (0 ∷ 2 ∷ []) $ fjoin ! $ move ! (2 ∷ 0 ∷ []) $ fjoin ! $ move ! (3 ∷ 0 ∷ []) $
            use2 𝓛 (raw ((News 𝓛 mem run).pre to-new)) (qed 𝓛 ((‵ (flft κ q) ⊛ ‵ ftrue) ∷ ‵ (owns (ShrSlice (named 0) κ u8 ∷ S.the_row ∷ []) (s, (st, tt)) at) ∷ []) ∵ join ! $ frame ! $ done !) $
            frame ! $ frame ! $ done !

        new-said : (r : Reader) → ent 𝓤 (ensured 𝓛 nw.ended (nw.clauses 𝓛 mem run) (κ, tt) (s, (st, tt)) tt r) (fact 𝓤 (HeldNewAllows s st r))
        new-said r = ex_e 𝓤 _ (λ ws. snd∗ 𝓤 (sem 𝓛 (lasts nw.ended (κ, tt) (s, (st, tt)) ws)) (fact 𝓤 (HeldNewAllows s st r)))

        abbrev to_held : Reader → Val → (HeldAt 𝓛).Ghost
        to_held r u = (((κ, tt), (q, tt), tt, (r, tt), (u ∷ [], tt)), tt)

        goes-held : (r : Reader) (u : Val) → ent 𝓤 (⋆ 𝓛 (‵ (B.own_val r (u ∷ [])) ∷ (‵ (flft κ q) ⊛ ‵ ftrue) ∷ [])) ((HeldAt 𝓛).pre (to_held r u))
        goes-held r u =
            qed 𝓛 (‵ (B.own_val r (u ∷ [])) ∷ (‵ (flft κ q) ⊛ ‵ ftrue) ∷ []) ∵ nothing ! $ move ! (1 ∷ 0 ∷ []) $ fjoin ! $ move ! (1 ∷ 0 ∷ []) $ join ! $ frame ! $ done !

        held-said : (r : Reader) (y : R.Denot) → ent 𝓤 (ensured 𝓛 (calling res) (passed_on res P 𝓤) (κ, tt) (r, tt) tt y) (fact 𝓤 (P (κ, tt) r.state r.image.now y))
        held-said r y = ex_e 𝓤 _ (λ ws. snd∗ 𝓤 (sem 𝓛 (lasts (calling res) (κ, tt) (r, tt) ws)) (fact 𝓤 (P (κ, tt) r.state r.image.now y)))

        -- what is said of the reader is said of image and state
        comes-to : (r : Reader) (y : R.Denot) → HeldNewAllows s st r → P (κ, tt) r.state r.image.now y → φ y
        comes-to r y e p = subst (λ (k : Reader). P (κ, tt) k.state k.image.now y) e p

        exits : (y : R.Denot) (u : Val) → φ y → ent 𝓤 (⋆ 𝓛 (‵ (R.own_val y (u ∷ [])) ∷ (‵ (flft κ q) ⊛ ‵ ftrue) ∷ ‵ OwnS ∷ ‵ Own ∷ [])) (Post u)
        exits y u e =
            qed 𝓛 (‵ (R.own_val y (u ∷ [])) ∷ (‵ (flft κ q) ⊛ ‵ ftrue) ∷ ‵ OwnS ∷ ‵ Own ∷ []) ∵
            suffices ! _ (ends_at 𝓛 asking stayed (promised 𝓤) (((κ, tt), (q, tt), tt, (s, (st, tt)), at), tt) u y (tt, (tt, tt)) (tt, (tt, tt))) $ says ! e $
            move ! (1 ∷ []) $ frame ! $ nothing ! $ move ! (2 ∷ 0 ∷ []) $ fjoin ! $ move ! (2 ∷ 0 ∷ []) $ fjoin ! $ frame ! $ done !

        module _ (C : Calls 𝓤 H) (Λ : Loops 𝓤 H) (fm : FmC 𝓤 H 𝓛.laws C) (news : Triple 𝓤 (C nw-def.name) (News 𝓛 mem run)) (known : Triple 𝓤 (C callee) (HeldAt 𝓛)) where
          walk : Is (ShrSlice (named 0) κ u8) s (v ∷ []) → Holds (has_ty S'.mir w) × WT w → ent 𝓤 (on_entry 𝓛 asking.signature (κ, tt) (q, tt) (s, (st, tt)) at) (WpFn 𝓤 H C Λ (anew callee ret) (v ∷ w ∷ []) Post)
          walk p wt =
              qed 𝓛 (raw (on_entry 𝓛 asking.signature (κ, tt) (q, tt) (s, (st, tt)) at) ∷ []) ∵ enter ! C Λ (anew callee ret) (v ∷ w ∷ []) _ $
              alloc1 ! (λ l₀. alloc1 ! (λ l₁. alloc1 ! (λ l₂. alloc1 ! (λ l₃. alloc0 ! $ params1 ! $ pass1 ! (init ! 4 refl ((shr_slice_Lawful 𝓛 (named 0) κ u8).typed s (v ∷ []) p).0) $ pass1 ! (init ! 2 refl wt) $ pass0 ! $
              move ! (8 ∷ []) $ use1 𝓛 (raw ((News 𝓛 mem run).pre to-new) ⊛ (‵ OwnS ⊛ ‵ Own)) goes-new $ split ! $ move ! (1 ∷ []) $ split ! $ move ! (2 ∷ []) $
              -- [what new asks; the state; the slice; _3 3; _2 5; _1 7; _0 9]
              calls_at ! fm (News 𝓛 mem run) news to-new (and_then ! (load ! (from ! (stop !)) (look ! 7 refl)) (and_then ! (load ! (from ! (stop !)) (look ! 5 refl)) (no_more !))) (λ u.
              use1 𝓛 (later (some (λ (r : Reader). ((‵ (flft κ q) ⊛ ‵ ftrue) ⊛ ‵ (B.own_val r (u ∷ []))) ⊛ raw (ensured 𝓛 nw.ended (nw.clauses 𝓛 mem run) (κ, tt) (s, (st, tt)) tt r)))) (id⊢ 𝓤 _) $ await ! tt $ pick ! (λ r.
              split ! $ move ! (1 ∷ []) $ use1 𝓛 (raw (fact 𝓤 (HeldNewAllows s st r))) (new-said r) $ heard ! (HeldNewAllows s st r) (λ f. split ! $ move ! (1 ∷ []) $
              peeks ! B (Is B) (shows 𝓛 B) r (u ∷ []) (λ is.
              -- [the reader; the token; the state; the slice; _3 4; _2 6; _1 8; _0 10]
              land ! (from ! (stop !)) (init ! 4 refl ((LL.lawful (T.the_type αᵉ) (T'.the_laws αᵉ) 𝓛).typed r _ is).0) $
              use2 𝓛 (raw ((HeldAt 𝓛).pre (to_held r u))) (goes-held r u) $
              -- [what the callee asks; the state; the slice; _3 3; …; _0 9]
              calls_at ! fm (HeldAt 𝓛) known (to_held r u) (and_then ! (load ! (from ! (stop !)) (look ! 3 refl)) (no_more !)) (λ u'.
              use1 𝓛 (later (some (λ (y : R.Denot). ((‵ (flft κ q) ⊛ ‵ ftrue) ⊛ ‵ (R.own_val y (u' ∷ []))) ⊛ raw (ensured 𝓛 (calling res) (passed_on res P 𝓤) (κ, tt) (r, tt) tt y)))) (id⊢ 𝓤 _) $ await ! tt $ pick ! (λ y.
              split ! $ move ! (1 ∷ []) $ use1 𝓛 (raw (fact 𝓤 (P (κ, tt) r.state r.image.now y))) (held-said r y) $ heard ! (P (κ, tt) r.state r.image.now y) (λ g. split ! $ move ! (1 ∷ []) $
              peeks ! R (Is R) (shows 𝓛 R) y (u' ∷ []) (λ is'.
              -- [the result; the token; the state; the slice; _3 4; _2 6; _1 8; _0 10]
              land ! (from ! (stop !)) (init ! 10 refl (typed (κ, tt) y u' is')) $
              returns ! (look ! 10 refl) $ forget ! 4 refl $ forget ! 6 refl $ forget ! 8 refl $ forget ! 10 refl $
              move ! (10 ∷ 11 ∷ []) $ free1 ! $ move ! (8 ∷ 9 ∷ []) $ free1 ! $ move ! (6 ∷ 7 ∷ []) $ free1 ! $ move ! (4 ∷ 5 ∷ []) $ free1 ! $ free0 ! $ by ! (exits y u' (comes-to r y f g))))))))))))))

      anew-walks : (C : Calls 𝓤 H) (Λ : Loops 𝓤 H) → FmC 𝓤 H 𝓛.laws C → Triple 𝓤 (C nw-def.name) (News 𝓛 mem run) → Triple 𝓤 (C callee) (HeldAt 𝓛) → Walks 𝓛 asking stayed (WpFn 𝓤 H C Λ (anew callee ret)) (promised 𝓤)
      anew-walks C Λ fm news known = walked 𝓛 asking stayed (promised 𝓤) (WpFn 𝓤 H C Λ (anew callee ret)) (λ κs. (shr_slice_vals, (LL.vals S.the_type S'.the_laws, tt))) (λ κs. (shr_slice_Tells (named 0) κs.0 u8, (LL.tells S.the_type S'.the_laws, tt)))
          (λ κs qs bounds a g are. via 𝓤 _ (fst∗ 𝓤 _ (emp 𝓤)) (walk κs.0 qs.0 a.0 a.1.0 C Λ fm news known are.0 ((LL.lawful S.the_type S'.the_laws 𝓛).typed a.1.0 _ are.1.0).0))

      pub anew-meets : (𝓣 : Tables 𝓤 H) → Triple 𝓤 (𝓣.C nw-def.name) (News 𝓛 mem run) → Triple 𝓤 (𝓣.C callee) (HeldAt 𝓛) → Meets 𝓛 asking.signature (WpFn 𝓤 H 𝓣.C 𝓣.Λ (anew callee ret)) (closing 𝓛 asking (promised 𝓤))
      anew-meets 𝓣 news known = walk_Meets 𝓛 asking stayed (Goes-none_slice 𝓛 1 (0 ∷ []) tt (plain (λ _. u8)) yes, (Goes-none 𝓛 1 (λ _. S.the_row) yes (λ κs x f. refl), tt)) (promised 𝓤) (WpFn 𝓤 H 𝓣.C 𝓣.Λ (anew callee ret)) (WpFn-mono 𝓤 H 𝓛.laws 𝓣 (anew callee ret)) (anew-walks 𝓣.C 𝓣.Λ (fm_of 𝓤 H 𝓛.laws 𝓣) news known)
