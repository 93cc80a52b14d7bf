-- Reports as JUnit XML: a test suite with a test case for each test.
use Rattle.std.specs.Prelude.{ℕ, List, [], ◌++◌, codes, length, count_by, not, string_bytes, if◌then◌else◌, Option, Some, None}
use Rattle.std.specs.List.{flat_map}
use Rattle.std.specs.Fmt.{decimal}
use Rattle.asl_suite.specs.Reports.{verdict_word}
use Rattle.asl_suite.specs.declared.finding.Finding.{Finding}
use Rattle.asl_suite.specs.Findings.{is_good}
use Rattle.asl_suite.specs.Xml.{xml_text, attribute}

abbrev pub text_attribute : List ℕ → List ℕ → List ℕ
text_attribute n t = attribute n (xml_text t)

abbrev pub count_attribute : List ℕ → ℕ → List ℕ
count_attribute n k = attribute n (decimal k)

-- ---- a test

abbrev pub class : Finding → List ℕ
class f = text_attribute (codes "classname") f.report.now.machine

-- the name behind a space, if there is one
unfoldable pub own_name : Option (List ℕ) → List ℕ
own_name None = []
own_name (Some t) = codes " " ++ xml_text t

-- number, case and name
unfoldable pub case_name : Finding → List ℕ
case_name f =
    decimal f.number ++ ((codes " " ++ xml_text f.report.now.case) ++ own_name f.report.now.name)

-- which test it is; the last quote is still open
unfoldable pub case_head : Finding → List ℕ
case_head f = codes "    <testcase" ++ (class f ++ (codes " name=\"" ++ case_name f))

abbrev pub type_attribute : Finding → List ℕ
type_attribute f = text_attribute (codes "type") (verdict_word f.report.now.verdict)

abbrev pub message : Finding → List ℕ
message f = text_attribute (codes "message") (string_bytes f.difference)

-- the verdict, and why the test isn't `ok`
unfoldable pub failure_head : Finding → List ℕ
failure_head f = codes "\">\n      <failure" ++ (type_attribute f ++ (message f ++ codes ">"))

-- how it is run alone
unfoldable pub failure : Finding → List ℕ
failure f =
    failure_head f ++ (xml_text (string_bytes f.alone) ++ codes "</failure>\n    </testcase>\n")

abbrev pub case_tail : Finding → List ℕ
case_tail f = if is_good f then codes "\"/>\n" else failure f

unfoldable pub case_element : Finding → List ℕ
case_element f = case_head f ++ case_tail f

-- ---- the suite

-- how many tests aren't `ok`
abbrev pub failed : List Finding → ℕ
failed fs = count_by (λ f. not (is_good f)) fs

unfoldable pub counts : List Finding → List ℕ
counts fs =
    count_attribute (codes "tests") (length fs)
    ++ (count_attribute (codes "failures") (failed fs) ++ count_attribute (codes "errors") 0)

-- what stands before the test cases of a suite of this name
unfoldable pub suite_head : List ℕ → List Finding → List ℕ
suite_head n fs = codes "  <testsuite" ++ (text_attribute (codes "name") n ++ (counts fs ++ codes ">\n"))

abbrev pub suite_element : List ℕ → List Finding → List ℕ
suite_element n fs = suite_head n fs ++ (flat_map case_element fs ++ codes "  </testsuite>\n")

unfoldable pub document_head : List ℕ
document_head = codes "<?xml version=\"1.0\" encoding=\"UTF-8\"?>\n<testsuites"

unfoldable pub document_tail : List ℕ
document_tail = codes "</testsuites>\n"

-- of one suite
abbrev pub junit_text : List ℕ → List Finding → List ℕ
junit_text n fs = document_head ++ (counts fs ++ (codes ">\n" ++ (suite_element n fs ++ document_tail)))

-- of several, of which these are the elements
abbrev pub junit_suites : List ℕ → List ℕ
junit_suites elements = document_head ++ (codes ">\n" ++ (elements ++ document_tail))
