-- Laws over lines and tokens.
use Rattle.std.proofs.Common.{◌≡◌, ℕ, ◌+◌, ◌<◌, Bool, true, false, List, [], ◌∷◌, length, refl, arith}
use Rattle.std.specs.Prelude.{filter, map}
use Rattle.std.specs.List.{enumerate_from}
use Rattle.plural_bytes.specs.Lines.{TextLine, pieces, content, content_from, has_text}
use Rattle.plural_bytes.specs.Laws.{Rises, LinesRise}

rises_sooner : (floor top : ℕ) (ls : List TextLine) → Rises (floor + 1) top ls → Rises floor top ls
rises_sooner floor top [] h = tt
rises_sooner floor top (l ∷ ls) h = (omega (arith, h.0), h.1, h.2)

kept_or_not : (n top : ℕ) (text : List ℕ) (ls : List TextLine) (b : Bool) → has_text text ≡ b → n < top → Rises (n + 1) top (filter (λ l. has_text l.1) ls) → Rises n top (filter (λ l. has_text l.1) ((n, text) ∷ ls))
kept_or_not n top text ls true e h r = rw e (omega arith, h, r)
kept_or_not n top text ls false e h r = rw e (rises_sooner n top _ r)

content_rises : (n : ℕ) (ps : List (List ℕ)) → Rises n (length ps + n) (content_from n ps)
content_rises n [] = tt
content_rises n (p ∷ ps) =
    let e : length ps + (n + 1) ≡ length (p ∷ ps) + n = omega arith in
    kept_or_not n (length (p ∷ ps) + n) (content p) (map (λ l. (l.0, content l.1)) (enumerate_from (n + 1) ps)) (has_text (content p)) refl (omega arith) (rw e at (content_rises (n + 1) ps))

-- The numbers of content lines rise.
pub lines_rise : LinesRise
lines_rise text = content_rises 1 (pieces text)
