-- What a copy into a part of a slice leaves is `lay`.
use Rattle.std.proofs.Common.{◌≡◌, ℕ, ◌+◌, ◌≤◌, List, length, take, drop, refl, sym, ◌∙◌, append_assoc}
use Rattle.std.proofs.lemmas.Slice.{put_mid-paste}
use Rattle.std.proofs.lemmas.List.Edits.{sets-eq, paste_all}
use borrow.Rule.Slice.PartMut.{put_mid}
use Rattle.lists.specs.Lay.{lay}

pub put_mid-lay : (d xs ys : List ℕ) (at k : ℕ) → ys ≡ xs → length xs ≡ k → at + length xs ≤ length d → put_mid at k d ys ≡ lay d at xs
unfolding lay
put_mid-lay d xs ys at k e n h =
    put_mid-paste at k d ys xs (length xs) e n refl
    ∙ paste_all d at xs (length xs) refl
    ∙ sym (append_assoc (take at d) xs (drop (at + length xs) d))
    ∙ sym (sets-eq xs d at h)
