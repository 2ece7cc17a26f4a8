use Rattle.std.proofs.Common.{◌≡◌, ◌∙◌, ℕ, List, [], ◌++◌, drop, length, length-append, take, length-drop, length-take-le, append-nil, ap, subst, arith, rules, replicate}
use Rattle.std.proofs.lemmas.List.{drop_all}
use Rattle.std.proofs.lemmas.Slice.{take-put_mid_below}
use Rattle.std.proofs.Math.Seq.{take-append_seam, drop-append_seam}
use borrow.Rule.Slice.PartMut.{put_mid, post_of}
use Rattle.aead_ciphers_wide.proofs.aes.round_keys.joined.Goals as goal

module _ (first second zeros : List ℕ) (one : length first ≡ 16) (two : length second ≡ 16) (size : length zeros ≡ 16) where
  whole : length (first ++ zeros) ≡ 32
  whole = omega (arith, one, size, length-append first zeros)

  front : take 16 (put_mid 16 16 (first ++ zeros) second) ≡ first
  front =
      take-put_mid_below 16 16 (first ++ zeros) second 16 (omega arith) (omega (arith, whole))
      ∙ subst (λ n. take n (first ++ zeros) ≡ first) one (take-append_seam first zeros)

  back : drop 16 (put_mid 16 16 (first ++ zeros) second) ≡ second
  back =
      let all = first ++ zeros in
      let size : length (take 16 all) ≡ 16 = length-take-le 16 all (omega (arith, whole)) in
      let none : post_of 16 16 all ≡ [] = drop_all 16 (drop 16 all) (omega (arith, whole, length-drop 16 all)) in
      subst (λ n. drop n (take 16 all ++ (second ++ post_of 16 16 all)) ≡ second ++ post_of 16 16 all) size
      (drop-append_seam (take 16 all) (second ++ post_of 16 16 all))
      ∙ ap (λ l. second ++ l) none ∙ append-nil second

pub returns-clause-first : goal.returns-clause-first
returns-clause-first c =
    front c.copy_from_slice.new.self c.copy_from_slice-2.new.self (replicate 16 0) (search rules) (search rules) (search rules)
    ∙ c.copy_from_slice.ensures.after

pub returns-clause-second : goal.returns-clause-second
returns-clause-second c =
    back c.copy_from_slice.new.self c.copy_from_slice-2.new.self (replicate 16 0) (search rules) (search rules) (search rules)
    ∙ c.copy_from_slice-2.ensures.after
