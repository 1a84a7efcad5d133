-- Hits and misses of load accesses, by looking back over all of them. (This project's own; no section of a standard.)
-- A list of accesses has word addresses, the oldest first; looking back, a list of lines has the newest first.
use Rattle.std.specs.Prelude.{ℕ, ◌+◌, ◌/◌, ◌%◌, Bool, false, ◌||◌, ◌&&◌, ◌==◌, if◌then◌else◌, nat_lt, List, [], ◌∷◌, length, map, reverse, take}

-- Line x is among these lines.
abbrev pub is_in : ℕ → List ℕ → Bool
is_in x [] = false
is_in x (y ∷ ys) = (y == x) || is_in x ys

-- The lines accessed since the latest access to line x.
abbrev pub since : ℕ → List ℕ → List ℕ
since x [] = []
since x (y ∷ ys) = (if y == x then [] else y ∷ since x ys)

-- These lines without x.
abbrev pub without : ℕ → List ℕ → List ℕ
without x [] = []
without x (y ∷ ys) = (if y == x then without x ys else y ∷ without x ys)

-- Each of these lines once, if it is newest.
abbrev pub different : List ℕ → List ℕ
different [] = []
different (y ∷ ys) = y ∷ without y (different ys)

-- Those of these lines that belong to set s: line y belongs to set y mod sets.
abbrev pub of_set : (sets s : ℕ) → List ℕ → List ℕ
of_set sets s [] = []
of_set sets s (y ∷ ys) = (if y % sets == s then y ∷ of_set sets s ys else of_set sets s ys)

-- The lines of these accesses, the newest first: word a is in line a / 8.
abbrev pub lines_back : List ℕ → List ℕ
lines_back h = reverse (map (λ a. a / 8) h)

-- An access to line x hits after these lines if x is among them, and fewer than `ways` different lines of its set
-- were accessed since the latest access to x.
abbrev pub hits_after : (sets ways x : ℕ) → List ℕ → Bool
hits_after sets ways x back = is_in x back && nat_lt (length (different (of_set sets (x % sets) (since x back)))) ways

-- How many of these line accesses miss, each judged by those before it.
abbrev pub misses_back : (sets ways : ℕ) → List ℕ → ℕ
misses_back sets ways [] = 0
misses_back sets ways (x ∷ ys) = misses_back sets ways ys + (if hits_after sets ways x ys then 0 else 1)

-- A load access to word a hits after the accesses h; otherwise it misses.
unfoldable pub hits : (sets ways : ℕ) (h : List ℕ) (a : ℕ) → Bool
hits sets ways h a = hits_after sets ways (a / 8) (lines_back h)

-- How many of the accesses h miss.
unfoldable pub misses_of : (sets ways : ℕ) → List ℕ → ℕ
misses_of sets ways h = misses_back sets ways (lines_back h)

-- The lines of set s that are present after the accesses h: its last `ways` different lines, the newest first, or all
-- of them if there are fewer.
unfoldable pub present_after : (sets ways : ℕ) (h : List ℕ) (s : ℕ) → List ℕ
present_after sets ways h s = take ways (different (of_set sets s (lines_back h)))
