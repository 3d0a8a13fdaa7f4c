-- The tokens of a line.
use Rattle.std.specs.Prelude.{ℕ, ◌^◌, Bool, ◌&&◌, List, map, length, take, drop, filter, codes, bytes_eq, nat_eq, nat_lt, nat_le, Option, Some, None, if◌then◌else◌}
use Rattle.std.specs.List.{position_or_len, slice_split}
use Rattle.std.specs.Str.{all_ascii_digits}
use Rattle.std.specs.Str.Parse.{digits_value}
use Rattle.text_core.specs.declared.token.Token.{Token}
use Rattle.text_core.specs.declared.token.Token.TheVariants.{Number, Zone, Map, MapAt, Store, Load, Info, Unmovable, Scan, Take, Copy, Finish, Shut, Look, Share, Unmap, Pin, Unpin, Huge, Give, Fill, Thin, Mark, Unmark, Compact, Pool, Other, During, End}

-- the lexemes of a text: its words, which are what stands between spaces and isn't empty
abbrev pub lexemes : List ℕ → List (List ℕ)
lexemes text = filter (λ part. nat_lt 0 (length part)) (slice_split (λ byte. nat_eq byte 32) text)

-- what stands before the first space of a text, or the whole text
abbrev pub first_word : List ℕ → List ℕ
first_word text = take (position_or_len (λ byte. nat_eq byte 32) text) text

-- the first space of a text, and what stands after it
abbrev pub after_word : List ℕ → List ℕ
after_word text = drop (position_or_len (λ byte. nat_eq byte 32) text) text

-- whether bytes are a number: 1 to 20 digits that fit 64 bits
abbrev pub is_number : List ℕ → Bool
is_number bytes =
    nat_le 1 (length bytes) && nat_le (length bytes) 20 && all_ascii_digits bytes && nat_lt (digits_value 10 bytes) (2 ^ 64)

-- the number that bytes are, if they are one
abbrev pub number_of : List ℕ → Option ℕ
number_of bytes = if is_number bytes then Some (digits_value 10 bytes) else None

-- the keyword that bytes are, or Other
abbrev pub keyword_of : List ℕ → Token
keyword_of lexeme =
    if bytes_eq lexeme (codes "zone") then Zone
    else if bytes_eq lexeme (codes "map") then Map
    else if bytes_eq lexeme (codes "mapat") then MapAt
    else if bytes_eq lexeme (codes "store") then Store
    else if bytes_eq lexeme (codes "load") then Load
    else if bytes_eq lexeme (codes "info") then Info
    else if bytes_eq lexeme (codes "unmovable") then Unmovable
    else if bytes_eq lexeme (codes "scan") then Scan
    else if bytes_eq lexeme (codes "take") then Take
    else if bytes_eq lexeme (codes "copy") then Copy
    else if bytes_eq lexeme (codes "finish") then Finish
    else if bytes_eq lexeme (codes "shut") then Shut
    else if bytes_eq lexeme (codes "look") then Look
    else if bytes_eq lexeme (codes "share") then Share
    else if bytes_eq lexeme (codes "unmap") then Unmap
    else if bytes_eq lexeme (codes "pin") then Pin
    else if bytes_eq lexeme (codes "unpin") then Unpin
    else if bytes_eq lexeme (codes "huge") then Huge
    else if bytes_eq lexeme (codes "give") then Give
    else if bytes_eq lexeme (codes "fill") then Fill
    else if bytes_eq lexeme (codes "thin") then Thin
    else if bytes_eq lexeme (codes "mark") then Mark
    else if bytes_eq lexeme (codes "unmark") then Unmark
    else if bytes_eq lexeme (codes "compact") then Compact
    else if bytes_eq lexeme (codes "pool") then Pool
    else if bytes_eq lexeme (codes "during") then During
    else if bytes_eq lexeme (codes "end") then End
    else Other

-- a number where there is one, and else the keyword that bytes are, or Other
abbrev pub number_or_keyword : Option ℕ → List ℕ → Token
number_or_keyword None lexeme = keyword_of lexeme
number_or_keyword (Some n) lexeme = Number n

-- what a word means: a number, a keyword, or nothing of the language
abbrev pub token_of : List ℕ → Token
token_of lexeme = number_or_keyword (number_of lexeme) lexeme

-- the tokens of a text, one for each word
abbrev pub tokens : List ℕ → List Token
tokens text = map token_of (lexemes text)
