-- A short text whose tree is accepted.
use Rattle.std.specs.Prelude.{ℕ, List, ◌++◌, codes}

-- A unit of one field lies in the last root cell along the first axis, past which nothing comes back, and moves by one
-- cell in the one cycle.
unfoldable pub drop_text : List ℕ
drop_text =
    codes "Mesh {\n"
    ++ codes "  array = [1, 1, 1];\n"
    ++ codes "  block = 4;\n"
    ++ codes "  boundary = [\"open\", \"closed\", \"closed\"];\n"
    ++ codes "}\n"
    ++ codes "Field {\n"
    ++ codes "  names = [\"a\"];\n"
    ++ codes "}\n"
    ++ codes "Initial {\n"
    ++ codes "  drop {\n"
    ++ codes "    field = \"a\";\n"
    ++ codes "    shape = \"box\";\n"
    ++ codes "    low = [3, 0, 0];\n"
    ++ codes "    high = [4, 1, 1];\n"
    ++ codes "    amount = 1;\n"
    ++ codes "  }\n"
    ++ codes "}\n"
    ++ codes "Method {\n"
    ++ codes "  velocity = [1, 0, 0];\n"
    ++ codes "  den = 1;\n"
    ++ codes "  cycles = 1;\n"
    ++ codes "}\n"
    ++ codes "Output {\n"
    ++ codes "  checkpoint = 1;\n"
    ++ codes "}\n"
