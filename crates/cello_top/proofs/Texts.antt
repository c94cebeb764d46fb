-- A text has its parameters or its first fault, and not both; and they are those of as much of it as is read.
use Rattle.std.proofs.Common.{◌≡◌, ℕ, ◌<◌, ◌≤◌, List, length, take, Result, Ok, Err, refl, sym, ap, subst, ◌∙◌, arith}
use Rattle.std.proofs.lemmas.List.{length-take, take_all}
use Rattle.params_syntax.specs.declared.tree.Group.{Group}
use Rattle.params_syntax.specs.declared.fault.SyntaxFault.{SyntaxFault}
use Rattle.params_syntax.specs.Reading.{Spells, HasFault, too_long, unformed, unexpected, too_many, unended, longest}
use Rattle.params_syntax.proofs.OneReading.{same_reading}
use Rattle.params_check.specs.Parameters.{Parameters}
use Rattle.params_check.specs.Walks.{parameters_of}
use Rattle.cello_top.specs.declared.fault.Fault.{Fault}
use Rattle.cello_top.specs.declared.fault.Fault.TheVariants.{Syntax, Param}
use Rattle.cello_top.specs.Texts.{HasParameters, HasTextFault, of_syntax, of_parameters}
use Rattle.cello_top.specs.Solo.{read_limit}

ok_is : {A B : Type 0} (r : Result A B) (x y : A) → r ≡ Ok x → r ≡ Ok y → x ≡ y
ok_is r x y e h = cc

err_is : {A B : Type 0} (r : Result A B) (x y : B) → r ≡ Err x → r ≡ Err y → x ≡ y
err_is r x y e h = cc

ok_not_err : {A B : Type 0} (r : Result A B) (x : A) (y : B) → r ≡ Ok x → r ≡ Err y → ⊥
ok_not_err r x y e h = cc

-- a text spells one tree
pub Spells-one : (text : List ℕ) (g h : List Group) → Spells text g → Spells text h → g ≡ h
Spells-one text g h a b = ok_is (Ok g) g h refl (same_reading text (Ok g) (Ok h) a b)

pub HasFault-one : (text : List ℕ) (f g : SyntaxFault) → HasFault text f → HasFault text g → f ≡ g
HasFault-one text f g a b = err_is (Err f) f g refl (same_reading text (Err f) (Err g) a b)

pub spelled_or_faulty : (text : List ℕ) (g : List Group) (f : SyntaxFault) → Spells text g → HasFault text f → ⊥
spelled_or_faulty text g f a b = ok_not_err (Ok g) g f refl (same_reading text (Ok g) (Err f) a b)

-- a text has one list of parameters
pub HasParameters-one : (text : List ℕ) (p q : Parameters) → HasParameters text p → HasParameters text q → p ≡ q
HasParameters-one text p q a b =
    let same : a.groups ≡ b.groups = Spells-one text a.groups b.groups a.spelled b.spelled in
    ok_is (parameters_of a.groups) p q a.accepted (ap parameters_of same ∙ b.accepted)

pub HasTextFault-one : (text : List ℕ) (f g : Fault) → HasTextFault text f → HasTextFault text g → f ≡ g
HasTextFault-one text f g (of_syntax x a e) (of_syntax y b h) = e ∙ ap Syntax (HasFault-one text x y a b) ∙ sym h
HasTextFault-one text f g (of_syntax x a e) (of_parameters groups y b r h) = absurd (spelled_or_faulty text groups x b a)
HasTextFault-one text f g (of_parameters groups x a r e) (of_syntax y b h) = absurd (spelled_or_faulty text groups y a b)
HasTextFault-one text f g (of_parameters groups x a r e) (of_parameters others y b s h) =
    let same : groups ≡ others = Spells-one text groups others a b in
    e ∙ ap Param (err_is (parameters_of groups) x y r (ap parameters_of same ∙ s)) ∙ sym h

pub accepted_or_faulty : (text : List ℕ) (p : Parameters) (f : Fault) → HasParameters text p → HasTextFault text f → ⊥
accepted_or_faulty text p f a (of_syntax x b e) = spelled_or_faulty text a.groups x a.spelled b
accepted_or_faulty text p f a (of_parameters groups x b r e) =
    let same : a.groups ≡ groups = Spells-one text a.groups groups a.spelled b in
    ok_not_err (parameters_of a.groups) p x a.accepted (ap parameters_of same ∙ r)

-- what was read is all where it is short
front_all : (all bytes : List ℕ) → bytes ≡ take read_limit all → length bytes ≤ longest → bytes ≡ all
front_all all bytes front short =
    let all_short : length all ≤ read_limit = omega (arith, ap length front, length-take read_limit all) in
    front ∙ take_all read_limit all all_short

front_long : (all bytes : List ℕ) → bytes ≡ take read_limit all → longest < length bytes → longest < length all
front_long all bytes front long = omega (arith, ap length front, length-take read_limit all)

pub front_Spells : (all bytes : List ℕ) (g : List Group) → bytes ≡ take read_limit all → Spells bytes g → Spells all g
front_Spells all bytes g front a = subst (λ text. Spells text g) (front_all all bytes front a.short) a

pub front_HasParameters : (all bytes : List ℕ) (p : Parameters) → bytes ≡ take read_limit all → HasParameters bytes p → HasParameters all p
front_HasParameters all bytes p front a = record {
  groups = a.groups;
  spelled = front_Spells all bytes a.groups front a.spelled;
  accepted = a.accepted;
}

front_HasFault : (all bytes : List ℕ) (f : SyntaxFault) → bytes ≡ take read_limit all → HasFault bytes f → HasFault all f
front_HasFault all bytes f front (too_long long e) = too_long (front_long all bytes front long) e
front_HasFault all bytes f front (unformed ts rest b bs kind a at bad e) =
    subst (λ text. HasFault text f) (front_all all bytes front a.short) (unformed ts rest b bs kind a at bad e)
front_HasFault all bytes f front (unexpected ts rest t after a next bad e) =
    subst (λ text. HasFault text f) (front_all all bytes front a.short) (unexpected ts rest t after a next bad e)
front_HasFault all bytes f front (too_many ts rest t after a next allowed many e) =
    subst (λ text. HasFault text f) (front_all all bytes front a.short) (too_many ts rest t after a next allowed many e)
front_HasFault all bytes f front (unended ts rest a at open_groups e) =
    subst (λ text. HasFault text f) (front_all all bytes front a.short) (unended ts rest a at open_groups e)

pub front_HasTextFault : (all bytes : List ℕ) (f : Fault) → bytes ≡ take read_limit all → HasTextFault bytes f → HasTextFault all f
front_HasTextFault all bytes f front (of_syntax x a e) = of_syntax x (front_HasFault all bytes x front a) e
front_HasTextFault all bytes f front (of_parameters groups x a r e) = of_parameters groups x (front_Spells all bytes groups front a) r e
