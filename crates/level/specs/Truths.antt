-- Lemmas: yes and no in their order, where a is at most b if `T a → T b`.
use Rattle.std.specs.Prelude.{◌≡◌, Bool, true, false, not, ◌&&◌, ◌||◌, T, refl}

pub either_way : (a b : Bool) → (T a → T b) → (T b → T a) → a ≡ b
either_way true true p q = refl
either_way true false p q = absurd (p tt)
either_way false true p q = absurd (q tt)
either_way false false p q = refl

pub and_left : (a b : Bool) → T (a && b) → T a
and_left true b t = tt
and_left false b t = t

pub and_right : (a b : Bool) → T (a && b) → T b
and_right true b t = t
and_right false b t = absurd t

pub and_most : (a b c : Bool) → (T c → T a) → (T c → T b) → T c → T (a && b)
and_most true b c p q t = q t
and_most false b c p q t = p t

pub or_left : (a b : Bool) → T a → T (a || b)
or_left true b t = tt
or_left false b t = absurd t

pub or_right : (a b : Bool) → T b → T (a || b)
or_right true b t = tt
or_right false b t = t

pub or_least : (a b c : Bool) → (T a → T c) → (T b → T c) → T (a || b) → T c
or_least true b c p q t = p tt
or_least false b c p q t = q t

pub not_turns : (a b : Bool) → (T a → T b) → T (not b) → T (not a)
not_turns true true p t = t
not_turns true false p t = p tt
not_turns false b p t = tt

pub not_twice : (a : Bool) → not (not a) ≡ a
not_twice true = refl
not_twice false = refl
