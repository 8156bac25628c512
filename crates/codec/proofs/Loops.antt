-- Bytes written one behind another: what is left and what was written make the whole.
use Rattle.std.specs.Prelude.{◌≡◌, List, [], ◌++◌, ℕ, ◌+◌, ◌≤◌, length}
use Rattle.std.proofs.Common.{sym, ap, ◌∙◌, append_assoc, append-nil, arith, length-append}
use Rattle.laws.specs.Splice.{splice, splice_none, splice_more, length_splice}

-- What is left begins with some bytes.
pub record BytesFirst (left bytes more : List ℕ) : Type 0 where
  pub is : left ≡ bytes ++ more

-- WRITING into a list that was list₀. What was written stands in it from at up to place.
pub record Writing (left whole list₀ : List ℕ) (at place : ℕ) (list : List ℕ) : Type 0 where
  pub seen : List ℕ
  pub rest : seen ++ left ≡ whole
  pub so_far : list ≡ splice list₀ at seen
  pub count : at + length seen ≡ place
  pub room : at + length whole ≤ length list₀

pub writing_start : {left whole list : List ℕ} {at : ℕ} → left ≡ whole → at + length whole ≤ length list → Writing left whole list at at list
writing_start {left} {whole} {list} {at} e h = record { seen = []; rest = e; so_far = sym (splice_none list at); count = omega arith; room = h }

module _ {left whole list₀ : List ℕ} {at place : ℕ} {list : List ℕ} (inv : Writing left whole list₀ at place list) where
  sizes : length inv.seen + length left ≡ length whole
  sizes = sym (length-append inv.seen left) ∙ ap length inv.rest

  pub writing_long : length list ≡ length list₀
  writing_long =
      let s = sizes in
      let r = inv.room in
      rw inv.so_far (length_splice list₀ at inv.seen (omega arith))

  module _ {bytes more : List ℕ} (begins : BytesFirst left bytes more) where
    more_sizes : length inv.seen + (length bytes + length more) ≡ length whole
    more_sizes = rw (begins.is, length-append) at sizes

    pub writing_room : place + length bytes ≤ length list
    writing_room =
        let s = more_sizes in
        let r = inv.room in
        let c = inv.count in
        let n = writing_long in
        omega arith

    pub writing_more : {place' : ℕ} {list' : List ℕ} → place' ≡ place + length bytes → list' ≡ splice list place bytes → Writing more whole list₀ at place' list'
    writing_more {place'} {list'} e f =
        let s = more_sizes in
        let r = inv.room in
        let c = inv.count in
        let n = length-append inv.seen bytes in
        record {
          seen = inv.seen ++ bytes;
          rest = append_assoc inv.seen bytes more ∙ (rw begins.is at inv.rest);
          so_far = f ∙ ap (λ (l : List ℕ). splice l place bytes) inv.so_far ∙ splice_more list₀ at inv.seen bytes place (omega arith) (omega arith);
          count = omega arith;
          room = r;
        }

  module _ (ends : left ≡ []) where
    all_written : inv.seen ≡ whole
    all_written = sym (append-nil inv.seen) ∙ (rw ends at inv.rest)

    pub writing_place : place ≡ at + length whole
    writing_place = sym inv.count ∙ ap (λ (l : List ℕ). at + length l) all_written

    pub writing_end : list ≡ splice list₀ at whole
    writing_end = inv.so_far ∙ ap (splice list₀ at) all_written
