-- Requests that are read from a body, and the keys that are made meanwhile.
use Rattle.std.proofs.Common.{◌≡◌, ℕ, ◌<◌, Bool, true, false, cond, List, [], ◌∷◌, ◌++◌, length, Option, Some, None, Ok, Err, refl, ap, ◌∙◌, arith}
use Rattle.std.specs.Prelude.{Result, IfSome, MatchOption, ok_or, nat_lt, ◌==◌, ◌&&◌}
use Rattle.std.specs.List.{list_all}
use Rattle.std.proofs.lemmas.List.{nil_from_length}
use Rattle.std.proofs.lemmas.Bool.Decides.{nat_tests}
use Rattle.cops_types.specs.declared.faults.Fault.{Fault}
use Rattle.cops_types.specs.declared.faults.Fault.TheVariants.{BadKey, Syntax}
use Rattle.cops_types.specs.declared.request_errors.RequestError.{RequestError}
use Rattle.cops_types.specs.declared.request_errors.RequestError.TheVariants.{OutOfMemory, Refused as RefusedWith}
use Rattle.cops_types.specs.FaultText.{fault_of_number}
use Rattle.cops_types.specs.Key.{is_key}
use Rattle.cops_wire.specs.declared.faults.Unread.{Unread}
use Rattle.cops_wire.specs.declared.faults.Unread.TheVariants.{Memory, Malformed}
use Rattle.cops_wire.specs.declared.messages.Message.{Message}
use Rattle.cops_wire.specs.declared.messages.Message.TheVariants.{Hello, CreateContext, DeleteContext, GetTrans, Created, Stored, Values, Refused}
use Rattle.cops_wire.specs.declared.reading.Request.{Request}
use Rattle.cops_wire.specs.declared.reading.Request.TheVariants as asked
use Rattle.cops_wire.specs.Reading.{◌>>=◌, Fails, all_at, cells_at, counted_parts, created_at, delete_at, get_at, hello_at, message_of, number_at, outcome_at, parts_of_tag, put_at, refused_at, stored_at, text_at, values_at, version_at, whole_of}
use Rattle.cops_wire.specs.Running.{AreKeysOf, AreKeysRead, AreMadeOf, Asks, IsRequestRead, IsPartsAsked}
use Rattle.cops_wire.specs.Serving.{is_request}
use Rattle.cops_wire.proofs.RequestLemmas.{ok_if, ok_same}

-- ---- keys

list_all-append : (xs ys : List (List ℕ)) → list_all is_key (xs ++ ys) ≡ (list_all is_key xs && list_all is_key ys)
list_all-append [] ys = refl
list_all-append (x ∷ xs) ys = ap (λ b. is_key x && b) (list_all-append xs ys) ∙ and_assoc (is_key x) (list_all is_key xs) (list_all is_key ys)
  where
    and_assoc : (a b c : Bool) → (a && (b && c)) ≡ ((a && b) && c)
    and_assoc true b c = refl
    and_assoc false b c = refl

-- one list more, behind one that is no key, or for which there was no memory
pub still_failed : (lists keys : List (List ℕ)) (bytes : List ℕ) (error : RequestError) → AreMadeOf lists (Err error) keys → AreMadeOf (lists ++ bytes ∷ []) (Err error) keys
still_failed lists keys bytes OutOfMemory h = tt
still_failed lists keys bytes (RefusedWith fault) h = (h.0, list_all-append lists (bytes ∷ []) ∙ rw h.1 refl)

-- one list more, which is no key
pub failed_key : (lists keys others : List (List ℕ)) (bytes : List ℕ) (fault : Fault) → AreMadeOf lists (Ok tt) keys → Err fault ≡ cond (is_key bytes) (Ok bytes) (Err BadKey) → AreMadeOf (lists ++ bytes ∷ []) (Err (RefusedWith fault)) others
failed_key lists keys others bytes fault h e = by_test (is_key bytes) refl e
  where
    by_test : (b : Bool) → is_key bytes ≡ b → Err fault ≡ cond b (Ok bytes) (Err BadKey) → AreMadeOf (lists ++ bytes ∷ []) (Err (RefusedWith fault)) others
    by_test true is so = cc
    by_test false is so = (cc, list_all-append lists (bytes ∷ []) ∙ rw (h.1, is) refl)

-- one key more
pub one_more_key : (lists keys later : List (List ℕ)) (bytes key : List ℕ) → AreMadeOf lists (Ok tt) keys → Ok key ≡ cond (is_key bytes) (Ok bytes) (Err BadKey) → later ≡ keys ++ key ∷ [] → AreMadeOf (lists ++ bytes ∷ []) (Ok tt) later
one_more_key lists keys later bytes key h e is =
    let same : key ≡ bytes = ok_same (is_key bytes) key bytes BadKey e in
    (is ∙ ap (λ k. keys ++ k ∷ []) same ∙ ap (λ l. l ++ bytes ∷ []) h.0, list_all-append lists (bytes ∷ []) ∙ rw (h.1, ok_if (is_key bytes) key bytes BadKey e) refl)

some_lists : (lists : List (List ℕ)) → 0 < length lists → nat_lt (length lists) 1 ≡ false
some_lists lists some = grind (arith, nat_tests)

-- all lists were gone through, and there were some
pub all_made : (lists keys : List (List ℕ)) (made : Result Unit RequestError) → 0 < length lists → AreMadeOf lists made keys → AreKeysOf lists made keys
all_made lists keys (Ok tt) some h = record { same = h.0; told_is = rw (some_lists lists some, h.1) refl }
all_made lists keys (Err OutOfMemory) some h = record { same = tt; told_is = tt }
all_made lists keys (Err (RefusedWith fault)) some h = record { same = tt; told_is = rw (some_lists lists some, h.0, h.1) refl }

-- there are none
pub no_lists : (count : ℕ) (bytes : List ℕ) (keys : List (List ℕ)) → count ≡ 0 → AreKeysRead (Ok (Err (RefusedWith Syntax))) keys bytes (all_at (text_at 1) count bytes)
unfolding all_at
no_lists count bytes keys e = rw e ([], refl, record { same = tt; told_is = refl })

-- ---- parts

-- what is no request's, behind what was read before it
behind : {A : Type 0} (read : Option A) (f : A → Option (Message × List ℕ)) → ((x : A) → IfSome (f x) (λ parts. is_request parts.0 ≡ false)) → IfSome (read >>= f) (λ parts. is_request parts.0 ≡ false)
behind None f h = tt
behind (Some x) f h = h x

other_parts : (b : Bool) (x y : Option (Message × List ℕ)) → (b ≡ true → IfSome x (λ parts. is_request parts.0 ≡ false)) → (b ≡ false → IfSome y (λ parts. is_request parts.0 ≡ false)) → IfSome (cond b x y) (λ parts. is_request parts.0 ≡ false)
other_parts true x y h k = h refl
other_parts false x y h k = k refl

abbrev pub NoRequest : Option (Message × List ℕ) → Type 0
NoRequest read = IfSome read (λ parts. is_request parts.0 ≡ false)

hello_parts : (bytes : List ℕ) → NoRequest (hello_at bytes)
unfolding hello_at
hello_parts bytes =
    behind (cells_at 16 bytes) (λ token. number_at 1 token.1 >>= λ dc. Some (Hello token.0 dc.0, dc.1)) (λ token. behind (number_at 1 token.1) (λ dc. Some (Hello token.0 dc.0, dc.1)) (λ dc. refl))

created_parts : (bytes : List ℕ) → NoRequest (created_at bytes)
unfolding created_at
created_parts bytes = behind (cells_at 9 bytes) (λ handle. Some (Created handle.0, handle.1)) (λ handle. refl)

stored_parts : (bytes : List ℕ) → NoRequest (stored_at bytes)
unfolding stored_at
stored_parts bytes =
    behind (text_at 1 bytes) (λ key. version_at key.1 >>= λ version. Some (Stored key.0 version.0, version.1)) (λ key. behind (version_at key.1) (λ version. Some (Stored key.0 version.0, version.1)) (λ version. refl))

values_parts : (bytes : List ℕ) → NoRequest (values_at bytes)
unfolding values_at
values_parts bytes = behind (counted_parts 1 outcome_at bytes) (λ outcomes. Some (Values outcomes.0, outcomes.1)) (λ outcomes. refl)

refused_parts : (bytes : List ℕ) → NoRequest (refused_at bytes)
unfolding refused_at
refused_parts bytes =
    behind (number_at 1 bytes) (λ number. fault_of_number number.0 >>= λ fault. Some (Refused fault, number.1)) (λ number. behind (fault_of_number number.0) (λ fault. Some (Refused fault, number.1)) (λ fault. refl))

-- another tag is no request's
pub other_tag : (tag : ℕ) (bytes : List ℕ) → (tag == 2) ≡ false → (tag == 3) ≡ false → (tag == 4) ≡ false → (tag == 5) ≡ false → NoRequest (parts_of_tag tag bytes)
unfolding parts_of_tag
other_tag tag bytes n2 n3 n4 n5 =
    other_parts (tag == 7) _ _ (λ e. hello_parts bytes) (λ e.
    other_parts (tag == 2) _ _ (λ e. let clash : ⊥ = cc in absurd clash) (λ e.
    other_parts (tag == 3) _ _ (λ e. let clash : ⊥ = cc in absurd clash) (λ e.
    other_parts (tag == 4) _ _ (λ e. let clash : ⊥ = cc in absurd clash) (λ e.
    other_parts (tag == 5) _ _ (λ e. let clash : ⊥ = cc in absurd clash) (λ e.
    other_parts (tag == 129) _ _ (λ e. refl) (λ e.
    other_parts (tag == 130) _ _ (λ e. created_parts bytes) (λ e.
    other_parts (tag == 131) _ _ (λ e. refl) (λ e.
    other_parts (tag == 132) _ _ (λ e. stored_parts bytes) (λ e.
    other_parts (tag == 133) _ _ (λ e. values_parts bytes) (λ e.
    other_parts (tag == 255) _ _ (λ e. refused_parts bytes) (λ e. tt)))))))))))

-- the parts of each request behind its tag
pub create_parts : (tag : ℕ) (bytes : List ℕ) → tag ≡ 2 → parts_of_tag tag bytes ≡ Some (CreateContext, bytes)
unfolding parts_of_tag
create_parts tag bytes e = rw e refl

pub delete_parts : (tag : ℕ) (bytes : List ℕ) → tag ≡ 3 → parts_of_tag tag bytes ≡ delete_at bytes
unfolding parts_of_tag
delete_parts tag bytes e = rw e refl

pub put_parts : (tag : ℕ) (bytes : List ℕ) → tag ≡ 4 → parts_of_tag tag bytes ≡ put_at bytes
unfolding parts_of_tag
put_parts tag bytes e = rw e refl

pub get_parts : (tag : ℕ) (bytes : List ℕ) → tag ≡ 5 → parts_of_tag tag bytes ≡ get_at bytes
unfolding parts_of_tag
get_parts tag bytes e = rw e refl

pub delete_fails : (e : Unread) (bytes : List ℕ) → Fails e (cells_at 9 bytes) → Fails e (delete_at bytes)
unfolding delete_at
delete_fails Memory bytes h = tt
delete_fails Malformed bytes h = rw h refl

pub delete_read : (bytes handle rest : List ℕ) → cells_at 9 bytes ≡ Some (handle, rest) → delete_at bytes ≡ Some (DeleteContext handle, rest)
unfolding delete_at
delete_read bytes handle rest h = rw h refl

pub get_fails_handle : (e : Unread) (bytes : List ℕ) → Fails e (cells_at 9 bytes) → Fails e (get_at bytes)
unfolding get_at
get_fails_handle Memory bytes h = tt
get_fails_handle Malformed bytes h = rw h refl

pub get_fails_count : (e : Unread) (bytes handle mid : List ℕ) → cells_at 9 bytes ≡ Some (handle, mid) → Fails e (number_at 1 mid) → Fails e (get_at bytes)
unfolding get_at counted_parts
get_fails_count Memory bytes handle mid h n = tt
get_fails_count Malformed bytes handle mid h n = rw (h, n) refl

pub get_fails_keys : (e : Unread) (bytes handle mid after : List ℕ) (count : ℕ) → cells_at 9 bytes ≡ Some (handle, mid) → number_at 1 mid ≡ Some (count, after) → Fails e (all_at (text_at 1) count after) → Fails e (get_at bytes)
unfolding get_at counted_parts
get_fails_keys Memory bytes handle mid after count h n a = tt
get_fails_keys Malformed bytes handle mid after count h n a = rw (h, n, a) refl

pub get_read : (bytes handle mid after rest : List ℕ) (count : ℕ) (lists : List (List ℕ)) → cells_at 9 bytes ≡ Some (handle, mid) → number_at 1 mid ≡ Some (count, after) → all_at (text_at 1) count after ≡ Some (lists, rest)
    → get_at bytes ≡ Some (GetTrans handle lists, rest)
unfolding get_at counted_parts
get_read bytes handle mid after rest count lists h n a = rw (h, n, a) refl

-- what could not be read is no request
pub fails_asked : (e : Unread) (keys : List (List ℕ)) (rest : List ℕ) (read : Option (Message × List ℕ)) → Fails e read → IsPartsAsked (Err e) keys rest read
fails_asked Memory keys rest read h = tt
fails_asked Malformed keys rest read h = rw h tt

-- ---- bodies

pub nil_if : (l : List ℕ) → (length l == 0) ≡ true → l ≡ []
nil_if l e = nil_from_length l (grind (arith, nat_tests))

pub not_nil : (l : List ℕ) → (length l == 0) ≡ false → l ≡ [] → ⊥
not_nil [] e none = cc
not_nil (x ∷ l) e none = cc

body_is : (body rest : List ℕ) (tag : ℕ) → body ≡ tag ∷ rest → message_of body ≡ whole_of (parts_of_tag tag rest)
unfolding message_of
body_is body rest tag e = rw e refl

-- a request, and nothing behind it
pub asked_whole : (body rest left : List ℕ) (tag : ℕ) (keys : List (List ℕ)) (request : Request) → body ≡ tag ∷ rest → IsPartsAsked (Ok request) keys left (parts_of_tag tag rest) → (length left == 0) ≡ true
    → IsRequestRead (Ok request) keys (message_of body)
asked_whole body rest left tag keys request e h none = (h.0, body_is body rest tag e ∙ ap whole_of h.1 ∙ rw none refl, h.2)

-- something stands behind it
pub asked_longer : (body rest left : List ℕ) (tag : ℕ) (keys : List (List ℕ)) (request : Request) → body ≡ tag ∷ rest → IsPartsAsked (Ok request) keys left (parts_of_tag tag rest) → (length left == 0) ≡ false
    → IsRequestRead (Err Malformed) keys (message_of body)
asked_longer body rest left tag keys request e h some =
    let none : message_of body ≡ None = body_is body rest tag e ∙ ap whole_of h.1 ∙ rw some refl in
    rw none tt

-- no request
pub asked_none : (body rest left : List ℕ) (tag : ℕ) (keys : List (List ℕ)) (e : Unread) → body ≡ tag ∷ rest → IsPartsAsked (Err e) keys left (parts_of_tag tag rest) → IsRequestRead (Err e) keys (message_of body)
asked_none body rest left tag keys Memory e h = tt
asked_none body rest left tag keys Malformed e h = rw (body_is body rest tag e) (by_parts (parts_of_tag tag rest) h)
  where
    by_parts : (read : Option (Message × List ℕ)) → IfSome read (λ parts. is_request parts.0 ≡ false) → IfSome (whole_of read) (λ message. is_request message ≡ false)
    by_parts None p = tt
    by_parts (Some parts) p = by_rest (length parts.1 == 0)
      where
        by_rest : (b : Bool) → IfSome (cond b (Some parts.0) None) (λ message. is_request message ≡ false)
        by_rest true = p
        by_rest false = tt

-- no tag
pub tag_missing : {T : Type 0} (first : Option T) (body : List ℕ) (P : T → Type 0) (e : Unread) → MatchOption first (length body ≡ 0) P → Err e ≡ ok_or first Malformed → (body ≡ []) × (e ≡ Malformed)
tag_missing None body P e none is = (nil_from_length body none, cc)
tag_missing (Some x) body P e some is = absurd (let clash : ⊥ = cc in clash)

pub asked_nothing : (body : List ℕ) (keys : List (List ℕ)) → body ≡ [] → IsRequestRead (Err Malformed) keys (message_of body)
unfolding message_of
asked_nothing body keys e = rw e tt

-- what asks is a request
pub asks_request : (request : Request) (keys : List (List ℕ)) (message : Message) → Asks request keys message → is_request message ≡ true
asks_request asked.Create keys message h = rw h refl
asks_request (asked.Delete handle) keys message h = rw h refl
asks_request (asked.Put put) keys message h = rw h refl
asks_request (asked.Get handle made) keys message h = rw h.1 refl
