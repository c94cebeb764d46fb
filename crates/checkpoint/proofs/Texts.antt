-- A text is the canonical text of at most one tree with parameters, the one that it reads as.
use Rattle.std.proofs.Common.{◌≡◌, ℕ, List, Result, Ok, Err, refl, sym, ap, subst, ◌∙◌}
use Rattle.params_syntax.specs.declared.tree.Group.{Group}
use Rattle.params_syntax.specs.declared.fault.SyntaxFault.{SyntaxFault}
use Rattle.params_syntax.specs.Reading.{Spells, HasFault}
use Rattle.params_syntax.proofs.CanonicalTokens.{canonical_text-spells}
use Rattle.params_syntax.proofs.OneReading.{same_reading}
use Rattle.params_check.specs.declared.fault.ParamFault.{ParamFault}
use Rattle.params_check.specs.Parameters.{Parameters}
use Rattle.params_check.specs.Walks.{parameters_of}
use Rattle.params_check.proofs.NoFaults.{accepted-again}
use Rattle.checkpoint.specs.Reading.{AreAccepted}

ok_is : {A B : Type 0} (r : Result A B) (x y : A) → r ≡ Ok x → r ≡ Ok y → x ≡ y
ok_is r x y e h = cc

ok_not_err : {A B : Type 0} (r : Result A B) (x : A) (y : B) → r ≡ Ok x → r ≡ Err y → ⊥
ok_not_err r x y e h = cc

-- the text of accepted parameters spells their tree
accepted-spells : (text : List ℕ) (p : Parameters) (a : AreAccepted p) → p.text ≡ text → Spells text a.groups
accepted-spells text p a is = subst (λ (t : List ℕ). Spells t a.groups) is (accepted-again canonical_text-spells a.groups p a.limits a.accepted)

-- a text with a fault of syntax is that of no accepted parameters
pub unread-none : (text : List ℕ) (f : SyntaxFault) → HasFault text f → (p : Parameters) → AreAccepted p → p.text ≡ text → ⊥
unread-none text f faulty p a is =
    ok_not_err (Ok a.groups) a.groups f refl (same_reading text (Ok a.groups) (Err f) (accepted-spells text p a is) faulty)

-- it has the tree that the text reads as
accepted-tree : (text : List ℕ) (groups : List Group) (p : Parameters) (a : AreAccepted p) → Spells text groups → p.text ≡ text → groups ≡ a.groups
accepted-tree text groups p a spells is =
    ok_is (Ok groups) groups a.groups refl (same_reading text (Ok groups) (Ok a.groups) spells (accepted-spells text p a is))

-- a text whose tree is refused is that of none
pub refused-none : (text : List ℕ) (groups : List Group) (f : ParamFault) → Spells text groups → parameters_of groups ≡ Err f → (p : Parameters) → AreAccepted p → p.text ≡ text → ⊥
refused-none text groups f spells refused p a is =
    ok_not_err (parameters_of groups) p f (ap parameters_of (accepted-tree text groups p a spells is) ∙ a.accepted) refused

-- nor is a text that isn't the one of its own parameters
pub other-none : (text : List ℕ) (groups : List Group) (q : Parameters) → Spells text groups → parameters_of groups ≡ Ok q → (q.text ≡ text → ⊥) → (p : Parameters) → AreAccepted p → p.text ≡ text → ⊥
other-none text groups q spells accepted other p a is =
    let same : q ≡ p = ok_is (parameters_of groups) q p accepted (ap parameters_of (accepted-tree text groups p a spells is) ∙ a.accepted) in
    other (ap (λ (r : Parameters). r.text) same ∙ is)

-- accepted parameters are told by their text
pub one-accepted : (p q : Parameters) → AreAccepted p → AreAccepted q → p.text ≡ q.text → p ≡ q
one-accepted p q a b e =
    let same : a.groups ≡ b.groups = accepted-tree q.text a.groups q b (accepted-spells q.text p a e) refl in
    ok_is (parameters_of b.groups) p q (sym (ap parameters_of same) ∙ a.accepted) b.accepted
