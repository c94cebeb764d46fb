-- The texts of the groups of the tree of a demonstration.
use Rattle.std.proofs.Common.{◌≡◌, ℕ, List, [], ◌++◌, codes, refl, ap, ap₂, sym, ◌∙◌, append_assoc, append-nil}
use Rattle.std.specs.Fmt.{decimal, digits}
use Rattle.params_syntax.specs.Canonical.{value_text, group_text}
use Rattle.demo_params.specs.DemoTexts.{three, ball_group, flow_group, mesh_group, field_group, adapt_group}
use Rattle.demo_params.proofs.DemoTrees.{numbers, mesh_of, fields_group, ball_of, heavy_group, flow_of}

-- the numbers that stand in each text
decimal-2 : decimal 2 ≡ codes "2"
unfolding digits
decimal-2 = refl

decimal-8 : decimal 8 ≡ codes "8"
unfolding digits
decimal-8 = refl

decimal-128 : decimal 128 ≡ codes "128"
unfolding digits
decimal-128 = refl

decimal-8192 : decimal 8192 ≡ codes "8192"
unfolding digits
decimal-8192 = refl

pub mesh_of-text : (size : ℕ) → group_text (mesh_of size) ≡ mesh_group size
unfolding mesh_group three
mesh_of-text size = simp (append_assoc, decimal-8, decimal-2, decimal-8192)

pub fields_group-text : group_text fields_group ≡ field_group
unfolding field_group
fields_group-text = refl

-- a list of three numbers
value-three : (x y z : ℕ) → value_text (numbers x y z) ≡ three x y z
unfolding three
value-three x y z = simp append_assoc

-- a line of a name and a value, by its parts
abbrev line : List ℕ → List ℕ → List ℕ → List ℕ → List ℕ → List ℕ
line indent name equals value end = indent ++ (name ++ equals ++ value ++ end)

-- three lines in a group, of which two have values that are drawn
three-lines : (head indent equals end last a x b c y : List ℕ)
    → head ++ (line indent a equals x end ++ (b ++ (line indent c equals y end ++ []))) ++ last
    ≡ head ++ (indent ++ (a ++ (equals ++ (x ++ (end ++ (b ++ (indent ++ (c ++ (equals ++ (y ++ (end ++ last)))))))))))
three-lines head indent equals end last a x b c y = simp (append_assoc, append-nil)

-- five lines in a sub of a group, of which three have values that are drawn
five-lines : (head indent equals end close last p q a x b y c z : List ℕ)
    → head ++ ((p ++ (q ++ (line indent a equals x end ++ (line indent b equals y end ++ (line indent c equals z end ++ [])))) ++ close) ++ []) ++ last
    ≡ head ++ (p ++ (q ++ (indent ++ (a ++ (equals ++ (x ++ (end ++ (indent ++ (b ++ (equals ++ (y ++ (end
    ++ (indent ++ (c ++ (equals ++ (z ++ (end ++ (close ++ last))))))))))))))))))
five-lines head indent equals end close last p q a x b y c z = simp (append_assoc, append-nil)

from-left-5 : (a b c d e : List ℕ) → a ++ b ++ c ++ d ++ e ≡ a ++ (b ++ (c ++ (d ++ e)))
from-left-5 a b c d e = simp append_assoc

from-left-7 : (a b c d e f g : List ℕ) → a ++ b ++ c ++ d ++ e ++ f ++ g ≡ a ++ (b ++ (c ++ (d ++ (e ++ (f ++ g)))))
from-left-7 a b c d e f g = simp append_assoc

-- the group of the ball, by the texts of its values
abbrev ball_lines : List ℕ → List ℕ → List ℕ → List ℕ
ball_lines center radius amount =
    codes "Initial {\n"
    ++ ((codes "  ball {\n    shape = \"ball\";\n" ++ (codes "    field = \"a\";\n" ++ (line (codes "    ") (codes "center") (codes " = ") center (codes ";\n")
    ++ (line (codes "    ") (codes "radius") (codes " = ") radius (codes ";\n")
    ++ (line (codes "    ") (codes "amount") (codes " = ") amount (codes ";\n") ++ []))))
    ++ codes "  }\n") ++ [])
    ++ codes "}\n"

ball_lines-text : (center radius amount : List ℕ) → ball_lines center radius amount
    ≡ codes "Initial {\n  ball {\n    shape = \"ball\";\n    field = \"a\";\n    center = " ++ center ++ codes ";\n    radius = " ++ radius
    ++ codes ";\n    amount = " ++ amount ++ codes ";\n  }\n}\n"
ball_lines-text center radius amount =
    five-lines (codes "Initial {\n") (codes "    ") (codes " = ") (codes ";\n") (codes "  }\n") (codes "}\n") (codes "  ball {\n    shape = \"ball\";\n")
    (codes "    field = \"a\";\n") (codes "center") center (codes "radius") radius (codes "amount") amount
    ∙ sym (from-left-7 (codes "Initial {\n  ball {\n    shape = \"ball\";\n    field = \"a\";\n    center = ") center (codes ";\n    radius = ") radius
    (codes ";\n    amount = ") amount (codes ";\n  }\n}\n"))

pub ball_of-text : (x y z radius amount : ℕ) → group_text (ball_of x y z radius amount) ≡ ball_group x y z radius amount
unfolding ball_group
ball_of-text x y z radius amount =
    ap (λ (c : List ℕ). ball_lines c (decimal radius) (decimal amount)) (value-three x y z)
    ∙ ball_lines-text (three x y z) (decimal radius) (decimal amount)

pub heavy_group-text : group_text heavy_group ≡ adapt_group
unfolding adapt_group digits
heavy_group-text = refl

-- the group of the flow, by the texts of its values
abbrev flow_lines : List ℕ → List ℕ → List ℕ → List ℕ
flow_lines velocity den cycles =
    codes "Method {\n"
    ++ (line (codes "  ") (codes "velocity") (codes " = ") velocity (codes ";\n")
    ++ ((codes "  den = " ++ den ++ codes ";\n") ++ (line (codes "  ") (codes "cycles") (codes " = ") cycles (codes ";\n") ++ [])))
    ++ codes "}\n"

flow_lines-text : (velocity cycles : List ℕ) → flow_lines velocity (codes "128") cycles
    ≡ codes "Method {\n  velocity = " ++ velocity ++ codes ";\n  den = 128;\n  cycles = " ++ cycles ++ codes ";\n}\n"
flow_lines-text velocity cycles =
    three-lines (codes "Method {\n") (codes "  ") (codes " = ") (codes ";\n") (codes "}\n") (codes "velocity") velocity (codes "  den = 128;\n") (codes "cycles") cycles
    ∙ sym (from-left-5 (codes "Method {\n  velocity = ") velocity (codes ";\n  den = 128;\n  cycles = ") cycles (codes ";\n}\n"))

pub flow_of-text : (u v w cycles : ℕ) → group_text (flow_of u v w cycles) ≡ flow_group u v w cycles
unfolding flow_group
flow_of-text u v w cycles =
    ap₂ (λ (a b : List ℕ). flow_lines a b (decimal cycles)) (value-three u v w) decimal-128
    ∙ flow_lines-text (three u v w) (decimal cycles)
