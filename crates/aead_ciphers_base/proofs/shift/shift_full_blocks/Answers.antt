use Rattle.std.proofs.Common.{arith, rules, refl, sym, ◌∙◌, ◌≡◌, ap, subst, ℕ, suc, ◌+◌, ◌-◌, ◌*◌, ◌/◌, ◌<◌, ◌≤◌, drop, length, length-drop}
use Rattle.std.proofs.Math.Nat.{suc-mul, div-mul-le_self, mul-le-mul_right}
use Rattle.aead_ciphers_base.proofs
use proofs.ShiftedBlocks.{may_take, shift_more, shifts_all}
use proofs.shift.shift_full_blocks.Goals as goal

-- block i ends within the list
block_fits : (i n len start : ℕ) → i < (len - start) / n → start ≤ len → start + (i * n + n) ≤ len
block_fits i n len start h w =
    let up : suc i * n ≤ (len - start) / n * n = mul-le-mul_right n h in
    let all : (len - start) / n * n ≤ len - start = div-mul-le_self (len - start) n in
    let e : suc i * n ≡ i * n + n = suc-mul i n in
    omega arith

-- the products are of two variables, and `search` alone is slow to bound them
pub overflow_mul-from : goal.overflow_mul-from
overflow_mul-from g c = search (rules, block_fits c.loop-i.i c.chunk_len-size.result _ c.args.in_out.start c.loop-i-test.true c.args.in_out.within)

pub chunk_at-requires : goal.chunk_at-requires
chunk_at-requires g c = search (rules, block_fits c.loop-i.i c.chunk_len-size.result _ c.args.in_out.start c.loop-i-test.true c.args.in_out.within)

pub overflow_add-place : goal.overflow_add-place
overflow_add-place g c = search (rules, block_fits c.loop-i.i c.chunk_len-size.result _ c.args.in_out.start c.loop-i-test.true c.args.in_out.within)

pub slice_bounds-place-end : goal.slice_bounds-place-end
slice_bounds-place-end g c = search
    (rules, block_fits c.loop-i.i c.chunk_len-size.result _ c.args.in_out.start c.loop-i-test.true c.args.in_out.within)

pub transform-output-requires : goal.transform-output-requires
transform-output-requires g c =
    let n = g.C.Chunk.chunk_len in let start = c.args.in_out.start in let old = c.args.in_out.in_out.now in let i = c.loop-i.i in
    let size : c.chunk_len-size.result ≡ n = c.chunk_len-size.ensures in
    let turn : i < (length old - start) / n = subst (λ x. i < (length old - start) / x) size c.loop-i-test.true in
    let same : length c.loop-i.in_out ≡ length old = omega arith in
    let taken : i < length (drop start old) / n = subst (λ x. i < x / n) (sym (length-drop start old)) turn in
    let takes = may_take g.C.Chunk.chunk_items g.F.FnMut n c.args.transform old start
    i c.loop-i.in_out c.loop-i.transform c.loop-i.invariant same (block_fits i n (length old) start turn c.args.in_out.within)
    c.chunk_at.result.now (rw size at c.chunk_at.ensures) taken c.requires.callable c.chunk_at.result refl in
    search (rules, takes)

pub loop-i-preserved : goal.loop-i-preserved
loop-i-preserved g c =
    let n = g.C.Chunk.chunk_len in let start = c.args.in_out.start in let old = c.args.in_out.in_out.now in let i = c.loop-i.i in
    let size : c.chunk_len-size.result ≡ n = c.chunk_len-size.ensures in
    let turn : i < (length old - start) / n = subst (λ x. i < (length old - start) / x) size c.loop-i-test.true in
    let same : length c.loop-i.in_out ≡ length old = omega arith in
    shift_more g.C.Chunk.chunk_items g.F.FnMut n c.args.transform old start
    i c.loop-i.in_out c.loop-i.transform c.loop-i.invariant same (block_fits i n (length old) start turn c.args.in_out.within)
    c.chunk_at.result.now c.transform-output.result c.transform-output.new.self c.put.new.to _ _
    (rw size at c.chunk_at.ensures) c.put.ensures
    (record { shown = c.chunk_at.result; shows = refl; called = search rules })
    (ap (λ x. i * x) size) (omega arith)

pub returns : goal.returns
returns g c =
    let n = g.C.Chunk.chunk_len in let start = c.args.in_out.start in let old = c.args.in_out.in_out.now in
    let size : c.chunk_len-size.result ≡ n = c.chunk_len-size.ensures in
    let done : c.loop-i.i ≡ (length old - start) / c.chunk_len-size.result = omega arith in
    shifts_all g.C.Chunk.chunk_items g.F.FnMut n c.args.transform old start
    c.loop-i.i c.loop-i.in_out c.loop-i.transform (done
    ∙ ap (λ x. (length old - start) / x) size) c.requires.whole c.loop-i.invariant
