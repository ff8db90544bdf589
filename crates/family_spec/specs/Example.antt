-- A concrete history of two members under one cap of 20, so that histories are not empty talk: two openings, each with a start of a book, steps that
-- are accepted and one that is refused with 20, an opening of an open member, a step of one that is not open, an opening that would pass the cap, a
-- step lent a part of its masses and one lent other masses and another book; then both register, one of them twice, and turns serve them in turn,
-- one of them refused; an idle turn; and one that goes round. Assumes nothing.
use Rattle.std.specs.Prelude.{Ok, Some, None, List, [], ◌∷◌, ℕ, ℤ, pos, negsuc, replicate}
use Rattle.numbers.specs.Checks.{Answered, refused}
use Rattle.book_spec.specs.Book.{Entry, entry}
use Rattle.book_spec.specs.LentBook.{grown_buffer}
use Rattle.kept_spec.specs.declared.Stepped.{Stepped}
use Rattle.kept_spec.specs.declared.Balance.{Balance}
use Rattle.kept_spec.specs.Example.{two, lent_book, book_start}
use Rattle.family_spec.specs.declared.Family.{Family}
use Rattle.family_spec.specs.Family.{open_with, put, schedule, begun}
use Rattle.family_spec.specs.Member.{StepInputs, step_inputs}
use Rattle.family_spec.specs.History.{FamilyEvent, FamilyStanding, place}

-- the families: nobody open; member 0 with 8; member 1 with 4; member 0 with 10; member 1 with 10; member 0 with 6
abbrev pub none : Family
none = begun 20 20 2

abbrev one : Family
one = put none 0 (open_with 8)

abbrev both : Family
both = put one 1 (open_with 4)

abbrev grown : Family
grown = put both 0 (open_with 10)

abbrev full : Family
full = put grown 1 (open_with 10)

abbrev less : Family
less = put full 0 (open_with 6)

-- member 1 waits; both wait; member 0 is served, with 10; and member 1, refused; member 0 waits again, and is served, with 6
abbrev later : Family
later = schedule less 2 0

abbrev pub busy : Family
busy = schedule less 3 0

abbrev pub turned : Family
turned = schedule (put less 0 (open_with 10)) 2 1

abbrev idle : Family
idle = schedule (put less 0 (open_with 10)) 0 2

abbrev pub again : Family
again = schedule (put less 0 (open_with 10)) 1 2

abbrev pub over : Family
over = schedule less 0 1

-- ---- the books, all of one block

-- a buffer with a record more
unfoldable pub filed : List ℕ → Entry → List ℕ
filed buffer e = grown_buffer buffer 512 e

-- member 0's, as its accepted steps leave it, with the record of each
abbrev pub entry3 : Entry
entry3 = entry (pos 2) 0 10

abbrev pub entry12 : Entry
entry12 = entry (negsuc 3) 0 6

abbrev pub entry17 : Entry
entry17 = entry (pos 0) 0 6

abbrev pub entry18 : Entry
entry18 = entry (pos 4) 0 10

abbrev pub entry22 : Entry
entry22 = entry (negsuc 3) 0 6

abbrev pub book3 : List ℕ
book3 = filed (lent_book 8) entry3

abbrev pub book12 : List ℕ
book12 = filed book3 entry12

abbrev pub book17 : List ℕ
book17 = filed book12 entry17

abbrev pub book18 : List ℕ
book18 = filed book17 entry18

abbrev pub book22 : List ℕ
book22 = filed book18 entry22

-- member 1's
abbrev pub entry5 : Entry
entry5 = entry (pos 6) 0 10

abbrev pub book5 : List ℕ
book5 = filed (lent_book 4) entry5

-- ---- the calls

abbrev balance : ℕ → Balance
balance total = record { total = total; scale = 20 }

-- openings at scale 20
abbrev opening : Family → ℕ → List ℕ → ℕ → Family → FamilyEvent
opening f i kept total g = FamilyEvent.opens f i kept 20 (record { family = g; answer = Ok (balance total) })

abbrev opening_refused : Family → ℕ → List ℕ → ℕ → FamilyEvent
opening_refused f i kept number = FamilyEvent.opens f i kept 20 (record { family = f; answer = refused number 0 })

-- steps by the field of `two`, at scale 20, lent a book of one block
abbrev pub inputs : List ℕ → ℤ → List ℕ → StepInputs
inputs kept source book = step_inputs kept source 20 two (replicate 12 (pos 1)) book 512

abbrev pub told : ℕ → Answered Stepped
told total = Ok (record { repair = record { outcome = 0; total = total; change = 2; shared = 2 }; balance = balance total; length = 512 })

abbrev stepping : Family → ℕ → List ℕ → ℤ → List ℕ → ℕ → Family → List ℕ → List ℕ → FamilyEvent
stepping f i kept source book total g masses left =
    FamilyEvent.steps f i (inputs kept source book)
    (record { family = g; answer = told total }) masses (replicate 12 (pos 0)) left

abbrev stepping_refused : Family → ℕ → List ℕ → ℤ → List ℕ → ℕ → FamilyEvent
stepping_refused f i kept source book number =
    FamilyEvent.steps f i (inputs kept source book) (record { family = f; answer = refused number 0 }) kept (replicate 12 (pos 1)) book

-- both are opened, and a book is started for each
abbrev pub call1 : FamilyEvent
call1 = opening none 0 (3 ∷ 5 ∷ []) 8 one

abbrev pub start1 : FamilyEvent
start1 = FamilyEvent.books one 0 (book_start 8)

abbrev pub call2 : FamilyEvent
call2 = opening one 1 (2 ∷ 2 ∷ []) 4 both

abbrev pub start2 : FamilyEvent
start2 = FamilyEvent.books both 1 (book_start 4)

-- member 0 gains 2; for member 1 a source of 7 would pass the cap, and 6 does not
abbrev pub call3 : FamilyEvent
call3 = stepping both 0 (3 ∷ 5 ∷ []) (pos 2) (lent_book 8) 10 grown (4 ∷ 6 ∷ []) book3

abbrev pub call4 : FamilyEvent
call4 = stepping_refused grown 1 (2 ∷ 2 ∷ []) (pos 7) (lent_book 4) 20

abbrev pub call5 : FamilyEvent
call5 = stepping grown 1 (2 ∷ 2 ∷ []) (pos 6) (lent_book 4) 10 full (4 ∷ 6 ∷ []) book5

-- an open member, a number above 7 and a member that is not open, lent member 0's book; an opening that would pass the cap
abbrev pub call6 : FamilyEvent
call6 = opening_refused full 0 (3 ∷ 5 ∷ []) 19

abbrev pub call7 : FamilyEvent
call7 = opening_refused full 8 (3 ∷ 5 ∷ []) 19

abbrev pub call8 : FamilyEvent
call8 = stepping_refused full 2 [] (pos 0) book3 19

abbrev pub call9 : FamilyEvent
call9 = opening_refused full 2 (1 ∷ 0 ∷ []) 20

-- a part of the masses of member 0, and other masses than those, with another book than its own
abbrev pub call10 : FamilyEvent
call10 = stepping_refused full 0 (6 ∷ []) (pos 0) book3 3

abbrev pub call11 : FamilyEvent
call11 = stepping_refused full 0 (5 ∷ 4 ∷ []) (pos 0) book5 12

-- member 0 loses 4
abbrev pub call12 : FamilyEvent
call12 = stepping full 0 (4 ∷ 6 ∷ []) (negsuc 3) book3 6 less (2 ∷ 4 ∷ []) book12

-- registrations: of member 1, of member 1 again, of member 0, and of one that is not open
abbrev registering : Family → ℕ → Family → FamilyEvent
registering f i g = FamilyEvent.registers f i (record { family = g; answer = Ok tt })

abbrev pub call13 : FamilyEvent
call13 = registering less 1 later

abbrev pub call14 : FamilyEvent
call14 = registering later 1 later

abbrev pub call15 : FamilyEvent
call15 = registering later 0 busy

abbrev pub call16 : FamilyEvent
call16 = FamilyEvent.registers busy 2 (record { family = busy; answer = refused 19 0 })

-- a step outside a turn serves nobody
abbrev pub call17 : FamilyEvent
call17 = stepping busy 0 (2 ∷ 4 ∷ []) (pos 0) book12 6 busy (2 ∷ 4 ∷ []) book17

-- member 0 is served and gains 4; member 1 is served, and refused; nobody waits
abbrev pub call18 : FamilyEvent
call18 =
    FamilyEvent.turns busy (inputs (2 ∷ 4 ∷ []) (pos 4) book17)
    (record { family = turned; answer = Some (record { member = 0; stepped = told 10 }) }) (4 ∷ 6 ∷ []) (replicate 12 (pos 0)) book18

abbrev pub call19 : FamilyEvent
call19 =
    FamilyEvent.turns turned (inputs (4 ∷ 6 ∷ []) (pos 1) book5)
    (record { family = idle; answer = Some (record { member = 1; stepped = refused 20 0 }) }) (4 ∷ 6 ∷ []) (replicate 12 (pos 1)) book5

abbrev pub call20 : FamilyEvent
call20 = FamilyEvent.turns idle (inputs [] (pos 0) []) (record { family = idle; answer = None }) [] (replicate 12 (pos 1)) []

-- member 0 registers, and the search from member 2 on goes round to it
abbrev pub call21 : FamilyEvent
call21 = registering idle 0 again

abbrev pub call22 : FamilyEvent
call22 =
    FamilyEvent.turns again (inputs (4 ∷ 6 ∷ []) (negsuc 3) book18)
    (record { family = over; answer = Some (record { member = 0; stepped = told 6 }) }) (2 ∷ 4 ∷ []) (replicate 12 (pos 0)) book22

abbrev pub events : List FamilyEvent
events =
    call1 ∷ start1 ∷ call2 ∷ start2 ∷ call3 ∷ call4 ∷ call5 ∷ call6 ∷ call7 ∷ call8 ∷ call9 ∷ call10 ∷ call11 ∷ call12 ∷ call13 ∷ call14 ∷ call15 ∷ call16
    ∷ call17 ∷ call18 ∷ call19 ∷ call20 ∷ call21 ∷ call22 ∷ []

-- ---- what stands

abbrev pub begin : FamilyStanding
begin = record { family = none; kept = λ i. []; book = λ i. []; length = λ i. 0 }

-- the masses that each call left in its member's place, one after another: before the turns, as at the end, member 0 has 2 and 4, member 1 has 4
-- and 6; and after the turns
abbrev before : ℕ → List ℕ
before =
    place (place (place (place (place (place (place (λ i. []) 0 (3 ∷ 5 ∷ [])) 1 (2 ∷ 2 ∷ [])) 0 (4 ∷ 6 ∷ [])) 1 (2 ∷ 2 ∷ [])) 1 (4 ∷ 6 ∷ [])) 0 (4 ∷ 6 ∷ []))
    0 (2 ∷ 4 ∷ [])

abbrev left : ℕ → List ℕ
left = place (place (place (place before 0 (2 ∷ 4 ∷ [])) 0 (4 ∷ 6 ∷ [])) 1 (4 ∷ 6 ∷ [])) 0 (2 ∷ 4 ∷ [])

-- the same of the buffers of the books: the starts and calls 3 to 5, then calls 10 and 12; and from call 17 on
abbrev books_before : ℕ → List ℕ
books_before = place (place (place (place (place (place (place (λ i. []) 0 (lent_book 8)) 1 (lent_book 4)) 0 book3) 1 (lent_book 4)) 1 book5) 0 book3) 0 book12

abbrev books_left : ℕ → List ℕ
books_left = place (place (place (place books_before 0 book17) 0 book18) 1 book5) 0 book22

-- and of their lengths, where call 8 leaves that of member 2, and call 11 that of member 0
abbrev lengths_before : ℕ → ℕ
lengths_before = place (place (place (place (place (place (place (place (place (λ i. 0) 0 512) 1 512) 0 512) 1 512) 1 512) 2 0) 0 512) 0 512) 0 512

abbrev lengths_left : ℕ → ℕ
lengths_left = place (place (place (place lengths_before 0 512) 0 512) 1 512) 0 512

abbrev pub last : FamilyStanding
last = record { family = over; kept = left; book = books_left; length = lengths_left }
