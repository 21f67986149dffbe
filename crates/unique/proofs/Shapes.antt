-- The shapes of a contract. A contract is a row of equations, and each fixes a part of the outcome: the answer, or what a lent
-- buffer holds afterwards. Where these parts are the whole outcome, the contract permits one outcome only: `whole`.
use mathlib.Core.Path.{◌≡◌, refl, sym, ap, ◌∙◌}
use contract.Lifetimes.{Lfts}
use denote.Triple.Entry.{Args, Res}
use denote.Triple.Clauses.{Ended, Lasts, at_exit}
use Rattle.unique.specs.Unique.{Permitted, Says}

infixr 50 ◌&◌
-- What `says` fixes of an outcome: a part that any two of which `says` holds have in common. `put x o` is o with that part of x.
pub record Fixes {O : Type 0} (says : O → Type 0) (put : O → O → O) : Type 0 where
  pub one : (x y : O) → says x → says y → put x ≡ put y

-- an equation, and where in the outcome its value stands
pub part : {O B : Type 0} {get : O → B} {v : B} (put : B → O → O) → Fixes (λ o. get o ≡ v) (λ x. put (get x))
part put = record { one = λ x y h k. ap put (h ∙ sym k) }

-- two clauses
pub ◌&◌ : {O : Type 0} {P Q : O → Type 0} {f g : O → O → O}
    → Fixes P f → Fixes Q g → Fixes (λ o. P o × Q o) (λ x o. f x (g x o))
p & q = record { one = λ x y h k i o. p.one x y h.0 k.0 i (q.one x y h.1 k.1 i o) }

-- a clause that fixes nothing more
pub more : {O : Type 0} {P : O → Type 0} → Fixes P (λ x o. o)
more = record { one = λ x y h k. refl }

-- clauses from which others follow
pub from : {O : Type 0} {P Q : O → Type 0} {f : O → O → O} → ((o : O) → P o → Q o) → Fixes Q f → Fixes P f
from t p = record { one = λ x y h k. p.one x y (t x h) (t y k) }

-- The parts by their place. An outcome is the answer, and then for each parameter what it holds afterwards.
abbrev here : {A L : Type 0} → A × L → A × L → A × L
here x o = (x.0, o.1)

abbrev past : {A L : Type 0} → (L → L → L) → A × L → A × L → A × L
past f x o = (o.0, f x.1 o.1)

next : {A L : Type 0} {P : L → Type 0} {f : L → L → L} → Fixes P f → Fixes {O = A × L} (λ o. P o.1) (past f)
next p = record { one = λ x y h k i o. (o.0, p.one x.1 y.1 h k i o.1) }

pub answer : {A L : Type 0} {v : A} → Fixes {O = A × L} (λ o. o.0 ≡ v) here
answer = part (λ v o. (v, o.1))

pub first : {A B L : Type 0} {v : B} → Fixes {O = A × (B × L)} (λ o. o.1.0 ≡ v) (past here)
first = next answer

pub second : {A B C L : Type 0} {v : C} → Fixes {O = A × (B × (C × L))} (λ o. o.1.1.0 ≡ v) (past (past here))
second = next first

pub third : {A B C D L : Type 0} {v : D}
    → Fixes {O = A × (B × (C × (D × L)))} (λ o. o.1.1.1.0 ≡ v) (past (past (past here)))
third = next second

pub fourth : {A B C D E L : Type 0} {v : E}
    → Fixes {O = A × (B × (C × (D × (E × L))))} (λ o. o.1.1.1.1.0 ≡ v) (past (past (past (past here))))
fourth = next third

pub fifth : {A B C D E F L : Type 0} {v : F}
    → Fixes {O = A × (B × (C × (D × (E × (F × L)))))} (λ o. o.1.1.1.1.1.0 ≡ v) (past (past (past (past (past here)))))
fifth = next fourth

pub sixth : {A B C D E F G L : Type 0} {v : G}
    → Fixes {O = A × (B × (C × (D × (E × (F × (G × L))))))} (λ o. o.1.1.1.1.1.1.0 ≡ v)
    (past (past (past (past (past (past here))))))
sixth = next fifth

-- The law: what is fixed is the whole, `put x o` is x. A parameter that is not lent to be written has nothing that could differ.
pub whole : {T : Ended} {says : Says T} {κs : Lfts T.signature.lifetimes} {a : Args T.signature κs}
    → Fixes {O = Res T.signature κs × Lasts T κs a} (λ o. says κs a o.0 (at_exit T κs a o.1)) (λ x o. x)
    → (x y : Permitted T says κs a) → (x.answer ≡ y.answer) × (x.last ≡ y.last)
whole p x y =
    let e = p.one (x.answer, x.last) (y.answer, y.last) x.meets y.meets in
    (λ i. (e i (x.answer, x.last)).0, λ i. (e i (x.answer, x.last)).1)
