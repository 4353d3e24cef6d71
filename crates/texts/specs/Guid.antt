-- A GUID as text: "{", Data1, "-", Data2, "-", Data3, "-", two bytes of Data4, "-", its other six, "}", all in upper-case hex
-- (Microsoft's StringFromGUID2). Assumes nothing.
use Rattle.std.specs.Prelude.{List, [], ◌∷◌, ◌++◌, ℕ, take, drop}
use Rattle.records.specs.Answer.{Answer, map, bind}
use Rattle.records.specs.Layout.{guid}
use Rattle.records.specs.Record.{field, place_of}
use Rattle.texts.specs.Text.{ascii, digits}

-- each byte in two digits
unfoldable pub hex_bytes : List ℕ → List ℕ
hex_bytes [] = []
hex_bytes (b ∷ bs) = digits 16 2 b ++ hex_bytes bs

unfoldable pub text_form : ℕ → ℕ → ℕ → List ℕ → List ℕ
text_form data1 data2 data3 data4 =
    ascii "{"
    ++ digits 16 8 data1
    ++ ascii "-"
    ++ digits 16 4 data2
    ++ ascii "-"
    ++ digits 16 4 data3
    ++ ascii "-"
    ++ hex_bytes (take 2 data4)
    ++ ascii "-"
    ++ hex_bytes (drop 2 data4)
    ++ ascii "}"

-- the text of the GUID at `at`; refused as its fields are
unfoldable pub guid_text : List ℕ → ℕ → ℕ → Answer (List ℕ)
guid_text s at len =
    bind (field guid "Data1" s at len) (λ data1.
    bind (field guid "Data2" s at len) (λ data2.
    bind (field guid "Data3" s at len) (λ data3.
    map (λ p. text_form data1 data2 data3 (take p.len (drop p.at s))) (place_of guid "Data4" s at len))))
