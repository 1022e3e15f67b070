use Rattle.std.proofs.Common.{◌≡◌, ℕ, ◌+◌, ◌*◌, ◌/◌, ◌≤◌, List, length, get_or, set, sym, ap, ◌∙◌, subst, ap₂, add-one, arith}
use Rattle.recipe.specs.Mirrors.{exchanged, opposite_kind, mirror, Mirrored}
use Rattle.recipe.proofs.Mirroring.{exchanged_other, mirror_mirrored}
use Rattle.recipe.proofs.mirror.mirror.Goals as goal

-- one kind more
more : (bytes now : List ℕ) (i v : ℕ) → now ≡ exchanged i bytes → v ≡ opposite_kind (get_or now (8 * i) 0) → set now (8 * i) v ≡ exchanged (i + 1) bytes
more bytes now i v e o =
    let old = ap (λ b. get_or b (8 * i) 0) e ∙ exchanged_other i bytes (8 * i) (λ j l q. let z : ⊥ = omega arith in z) in
    ap₂ (λ b w. set b (8 * i) w) e (o ∙ ap opposite_kind old) ∙ ap (λ n. exchanged n bytes) (sym (add-one i))

all : (bytes now : List ℕ) (i : ℕ) → now ≡ exchanged i bytes → length bytes / 8 ≤ i → i ≤ length bytes / 8 → now ≡ mirror bytes
all bytes now i e l k = let q : i ≡ length bytes / 8 = omega arith in e ∙ ap (λ n. exchanged n bytes) q

pub loop-i-preserved : goal.loop-i-preserved
loop-i-preserved c = more c.args.bytes.now c.loop-i.bytes c.loop-i.i c.opposite.result c.loop-i.invariant c.opposite.ensures

pub returns-clause-means : goal.returns-clause-means
returns-clause-means c =
    let is = all c.args.bytes.now c.loop-i.bytes c.loop-i.i c.loop-i.invariant c.loop-i-test.false c.loop-i.auto.i-end in
    subst (Mirrored c.args.bytes.now) (sym is) (mirror_mirrored c.args.bytes.now)
