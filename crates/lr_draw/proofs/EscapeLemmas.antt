-- Escaped text is text of plain bytes and escapes.
use Rattle.std.proofs.Common.{◌≡◌, ◌≢◌, ℕ, Bool, true, false, cond, eqb, eq-eqb, List, [], ◌∷◌, ◌++◌, refl}
use Rattle.std.specs.Prelude.{codes}
use Rattle.lr_draw.specs.Escapes.{escaped, IsEscaped, ended, plain, less, greater, ampersand, quote}
use Rattle.lr_draw.specs.Escapes.{apostrophe}

-- a test that fails tells two numbers apart
other : (a b : ℕ) → eqb a b ≡ false → a ≢ b
other a b h e = let t : eqb a b ≡ true = eq-eqb a b e in cc

by_apostrophe : (byte : ℕ) (rest : List ℕ) → IsEscaped rest → byte ≢ 60 → byte ≢ 62 → byte ≢ 38 → byte ≢ 34
    → (s : Bool) → eqb byte 39 ≡ s → IsEscaped (cond s (codes "&#39;") (byte ∷ []) ++ rest)
by_apostrophe byte rest h l g a q true e = apostrophe rest h
by_apostrophe byte rest h l g a q false e = plain byte rest (record {
  no_less = l;
  no_greater = g;
  no_ampersand =
      a;
  no_quote = q;
  no_apostrophe = other byte 39 e;
}) h

by_quote : (byte : ℕ) (rest : List ℕ) → IsEscaped rest → byte ≢ 60 → byte ≢ 62 → byte ≢ 38 → (s : Bool)
    → eqb byte 34 ≡ s → IsEscaped (cond s (codes "&quot;") (cond (eqb byte 39) (codes "&#39;") (byte ∷ [])) ++ rest)
by_quote byte rest h l g a true e = quote rest h
by_quote byte rest h l g a false e = by_apostrophe byte rest h l g a (other byte 34 e) (eqb byte 39) refl

by_ampersand : (byte : ℕ) (rest : List ℕ) → IsEscaped rest → byte ≢ 60 → byte ≢ 62 → (s : Bool)
    → eqb byte 38 ≡ s → IsEscaped (cond s (codes "&amp;") (cond (eqb byte 34) (codes "&quot;") (cond (eqb byte 39)
    (codes "&#39;") (byte ∷ []))) ++ rest)
by_ampersand byte rest h l g true e = ampersand rest h
by_ampersand byte rest h l g false e = by_quote byte rest h l g (other byte 38 e) (eqb byte 34) refl

by_greater : (byte : ℕ) (rest : List ℕ) → IsEscaped rest → byte ≢ 60 → (s : Bool) → eqb byte 62 ≡ s
    → IsEscaped (cond s (codes "&gt;") (cond (eqb byte 38) (codes "&amp;") (cond (eqb byte 34) (codes "&quot;")
    (cond (eqb byte 39) (codes "&#39;") (byte ∷ [])))) ++ rest)
by_greater byte rest h l true e = greater rest h
by_greater byte rest h l false e = by_ampersand byte rest h l (other byte 62 e) (eqb byte 38) refl

by_less : (byte : ℕ) (rest : List ℕ) → IsEscaped rest → (s : Bool) → eqb byte 60 ≡ s
    → IsEscaped (cond s (codes "&lt;") (cond (eqb byte 62) (codes "&gt;") (cond (eqb byte 38) (codes "&amp;") (cond
    (eqb byte 34) (codes "&quot;") (cond (eqb byte 39) (codes "&#39;") (byte ∷ []))))) ++ rest)
by_less byte rest h true e = less rest h
by_less byte rest h false e = by_greater byte rest h (other byte 60 e) (eqb byte 62) refl

-- each text, escaped, is such a text
pub escaped_is : (text : List ℕ) → IsEscaped (escaped text)
escaped_is [] = ended
escaped_is (byte ∷ text) = by_less byte (escaped text) (escaped_is text) (eqb byte 60) refl
